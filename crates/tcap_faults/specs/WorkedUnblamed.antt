-- Why is nothing blamed on an end at an entry of a worked record?
use Rattle.std.specs.Prelude.{◌≡◌, ℕ, List, [], ◌∷◌, map, Option, Some, None, refl}
use Rattle.tcap_msg.specs.declared.message.Message.TheVariants.{Begin, Continue, End as EndMessage}
use Rattle.tcap_record.specs.declared.entry.End.{End as Side}
use Rattle.tcap_record.specs.declared.entry.End.TheVariants.{A, B}
use Rattle.tcap_model.specs.World.{Item, Sent}
use Rattle.tcap_model.specs.Entries.{entry_of}
use Rattle.tcap_model.specs.WorkedItems.{id, table}
use Rattle.tcap_faults.specs.declared.verdict.unblamed_reason.Unblamed.{Unblamed}
use Rattle.tcap_faults.specs.declared.verdict.unblamed_reason.Unblamed.TheVariants.{UsedAgain}
use Rattle.tcap_faults.specs.Unblamed.{unblamed_at}

abbrev begins : Side → ℕ → Item
begins side otid = Sent side (Begin (id otid) None None)

abbrev goes_on : Side → ℕ → ℕ → Item
goes_on side otid dtid = Sent side (Continue (id otid) (id dtid) None None)

abbrev ends : Side → ℕ → Item
ends side dtid = Sent side (EndMessage (id dtid) None None)

abbrev unblamed : List Item → Side → ℕ → Option Unblamed
unblamed items side number = unblamed_at table side (map entry_of items) number

-- A uses 01 again in entry 2. Its half with 03 is open at the mark, and the next dialogue begins after the mark.
abbrev used_again : List Item
used_again =
    begins A 1 ∷ ends B 1 ∷ begins A 1 ∷ begins A 3 ∷ goes_on B 9 3 ∷ goes_on A 3 9 ∷ Item.Quiet ∷ begins A 4 ∷ []

-- From entry 2 on, nothing is blamed on A up to the quiet mark and at it. After the mark, entry 2 no longer matters.
pub before_it : unblamed used_again A 1 ≡ None
before_it = refl

pub by_it : unblamed used_again A 2 ≡ Some (UsedAgain 2)
by_it = refl

pub after_it : unblamed used_again A 5 ≡ Some (UsedAgain 2)
after_it = refl

pub at_the_mark : unblamed used_again A 6 ≡ Some (UsedAgain 2)
at_the_mark = refl

pub after_the_mark : unblamed used_again A 7 ≡ None
after_the_mark = refl

-- B used no ID again.
pub of_the_peer : unblamed used_again B 6 ≡ None
of_the_peer = refl
