use Rattle.std.proofs.Common.{to_z-of_z, SFits, w8, rules}
use Rattle.tcap_end.proofs.half_state.HalfState.undo.Goals as goal

pub put-requires : goal.put-requires
put-requires c =
    let fits : SFits w8 c.in-Out.id = search rules in
    record { made = rw (to_z-of_z fits) (rw c.in-Out.is at c.requires.can) }

pub set_state-requires : goal.set_state-requires
set_state-requires c =
    let fits : SFits w8 c.in-Waits.id = search rules in
    record { made = rw (to_z-of_z fits) (rw c.in-Waits.is at c.requires.can) }

pub put_back-requires : goal.put_back-requires
put_back-requires c =
    let fits : SFits w8 c.in-InnTaken.id = search rules in
    let can = rw c.in-InnTaken.is at c.requires.can in
    record { within = rw (to_z-of_z fits) can.within; empty = rw (to_z-of_z fits) can.empty; exists = rw (to_z-of_z fits) can.there }

pub put_back-requires-in-GrantTaken : goal.put_back-requires-in-GrantTaken
put_back-requires-in-GrantTaken c =
    let fits : SFits w8 c.in-GrantTaken.id = search rules in
    let can = rw c.in-GrantTaken.is at c.requires.can in
    record { within = rw (to_z-of_z fits) can.within; empty = rw (to_z-of_z fits) can.empty; exists = rw (to_z-of_z fits) can.there }

pub remove_newest-requires : goal.remove_newest-requires
remove_newest-requires c =
    let fits : SFits w8 c.in-InnJoined.id = search rules in
    record { made = rw (to_z-of_z fits) (rw c.in-InnJoined.is at c.requires.can) }

pub remove_newest-requires-in-GrantJoined : goal.remove_newest-requires-in-GrantJoined
remove_newest-requires-in-GrantJoined c =
    let fits : SFits w8 c.in-GrantJoined.id = search rules in
    record { made = rw (to_z-of_z fits) (rw c.in-GrantJoined.is at c.requires.can) }
