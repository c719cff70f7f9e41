-- What a prompt certificate gives for octets, and what it gives none for.
use Rattle.std.proofs.Common.{◌≡◌, ◌<◌, ◌+◌, ◌-◌, ℕ, suc, arith, List, [], ◌∷◌, ◌++◌, append_assoc, Some, None, Result, Ok, Err, refl, sym, ap, subst, ◌∙◌}
use Rattle.tcap_record.specs.declared.entry.Entry.{Entry}
use Rattle.tcap_record.specs.Reading.{IsReadAs}
use Rattle.tcap_end.specs.Table.{Table}
use Rattle.tcap_model.specs.declared.reason.Reason.TheVariants.{Memory}
use Rattle.tcap_model.specs.Run.{Event}
use Rattle.tcap_certificate.specs.declared.certificate.Fate.{Fate}
use Rattle.tcap_certificate.specs.declared.certificate.Fate.TheVariants.{Gap}
use Rattle.tcap_certificate.specs.declared.fault.CheckFault.{CheckFault}
use Rattle.tcap_certificate.specs.Certificate.{Certificate, IsPrompt, prompt, prompt_fates}
use Rattle.tcap_certificate.specs.Replay.{fault_at, map_ok, replayed_by}
use Rattle.tcap_check.specs.declared.checker.Report.{Report}
use Rattle.tcap_check.specs.CheckerMeaning.{reported}
use Rattle.tcap_check.proofs.prompt_laws.AtOnceRuns.{fates_prompt}
use Rattle.tcap_uses.proofs.Results.{told_all}

-- The fates of the remaining entries are the next fate and those after it.
fates_next : (n count : ℕ) → n < count → prompt_fates n (count - n) ≡ Gap (n + 1) ∷ prompt_fates (n + 1) (count - (n + 1))
fates_next n count within = let e : count - n ≡ suc (count - (n + 1)) = omega (arith, within) in rw e refl

pub fates_more : (n count : ℕ) (made all : List Fate) → n < count → made ++ prompt_fates n (count - n) ≡ all
    → (made ++ Gap (n + 1) ∷ []) ++ prompt_fates (n + 1) (count - (n + 1)) ≡ all
fates_more n count made all within so_far =
    append_assoc made (Gap (n + 1) ∷ []) (prompt_fates (n + 1) (count - (n + 1)))
    ∙ ap (λ fates. made ++ fates) (sym (fates_next n count within))
    ∙ so_far

-- If a reader of known octets is read to its end, the entries are those of all its octets.
pub read_whole : (entries : List Entry) (whole returned rest : List ℕ) → whole ≡ returned ++ rest → rest ≡ []
    → IsReadAs entries (Ok tt) returned → IsReadAs entries (Ok tt) whole
read_whole entries whole returned rest all none read =
    subst (IsReadAs entries (Ok tt)) (told_all whole returned (Some rest) all none) read

-- The prompt certificate of `count` entries is prompt.
pub made_prompt : (c : Certificate) (count : ℕ) → c ≡ prompt count → IsPrompt c
made_prompt c count is = subst IsPrompt (sym is) (fates_prompt 0 count, refl, refl)

-- If the certificate is accepted, it gives a run.
pub reported_run : (table : Table) (c : Certificate) (entries : List Entry) (report : Report)
    → map_ok (reported None) (replayed_by None table c entries) ≡ Ok report → (events : List Event) × (replayed_by None table c entries ≡ Ok events)
reported_run table c entries report is = by (replayed_by None table c entries) is
  where
    by : (o : Result (List Event) CheckFault) → map_ok (reported None) o ≡ Ok report → (events : List Event) × (o ≡ Ok events)
    by (Ok events) e = (events, refl)
    by (Err fault) e = cc

-- If the certificate is refused, it gives no run.
pub refused_run : (table : Table) (c : Certificate) (entries : List Entry) (fault : CheckFault) (events : List Event)
    → (let x : Result Report CheckFault = Err fault in x) ≡ map_ok (reported None) (replayed_by None table c entries)
    → replayed_by None table c entries ≡ Ok events → ⊥
refused_run table c entries fault events is given =
    let no : (let x : Result Report CheckFault = Err fault in x) ≡ Ok (reported None events) = is ∙ ap (map_ok (reported None)) given in cc

-- If the fault is that of lacking memory, so is its reason.
pub memory_is : (fault : CheckFault) → (let x : Result Report CheckFault = Err fault in x) ≡ Err (fault_at Memory 0) → fault.reason ≡ Memory
memory_is fault e = let same : fault ≡ fault_at Memory 0 = cc in ap (λ (f : CheckFault). f.reason) same
