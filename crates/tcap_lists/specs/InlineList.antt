-- What a contract sees of a list that stores its first item in place.
use Rattle.std.specs.Prelude.{List, refl}
use Rattle.std.specs.Coded.{Coded, code_by, coded_list}

-- the items, in order
pub record Items (T : Type 0) : Type 0 where
  pub items : List T

-- the list is stored as its items
abbrev pub items_code : {T : Type 0} → Coded T → Coded (Items T)
items_code {T} code =
    code_by (List T) (coded_list code) (λ list. list.items) (λ items. record { items = items }) (λ _. refl)
