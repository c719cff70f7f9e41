-- Which items a list holds that stores its first item in place.
use Rattle.std.specs.Option.{option_to_list}
use Rattle.tcap_lists.specs.InlineList.{Items}
use Rattle.tcap_lists.specs.declared.inline_list.Storage.{Storage}
use Rattle.tcap_lists.specs.declared.inline_list.Storage.TheVariants.{Inside, Outside}

-- the items, stored in place or in a vector
abbrev pub items_in : {T : Type 0} → Storage T → Items T
items_in (Inside item) = record { items = option_to_list item }
items_in (Outside list) = record { items = list.items }
