-- What a stopped walk returns after each of its steps.
use Rattle.std.proofs.Common.{◌≡◌, ℕ, ◌+◌, ◌-◌, ◌<◌, ◌≤◌, ◌⊎◌, List, [], ◌∷◌, ◌++◌, length, take, drop, Option, Some, None, Ok, Err, refl, sym, ap, ◌∙◌, inl, inr, arith}
use Rattle.std.specs.Prelude.{◌≢◌}
use Rattle.std.proofs.lemmas.Bool.{lt-ltb, le-ltb, eq-eqb}
use Rattle.std.proofs.lemmas.List.{length-append, length-drop, drop-append-le}
use Rattle.std.proofs.Math.Seq.{take-length}
use Rattle.tcap_ber.specs.declared.fault.Fault.{Fault}
use Rattle.tcap_ber.specs.declared.header.Opening.{Opening}
use Rattle.tcap_ber.specs.declared.progress.Progress.{Progress}
use Rattle.tcap_ber.specs.declared.walk.Walk.{Walk}
use Rattle.tcap_ber.specs.HeaderReading.{opening_at}
use Rattle.tcap_ber.specs.WalkResult.{behind_header, walk_on, at_first, outer_at, resume, resume_unless}
use Rattle.tcap_ber.specs.ResumedWalk.{resumes, IsStopped}
use Rattle.tcap_ber.specs.Progress.{header_octets}
use Rattle.tcap_ber.proofs.OpeningLaws.{from}
use Rattle.tcap_ber.proofs.OpeningPlaceLaws.{opening_within}
use Rattle.tcap_ber.proofs.ResumeLaws.{skips, holds, fails, fails_behind, goes_behind, goes_behind_whole}

-- a walk that has not begun
pub first_gives : (octets : List ℕ) → resume 0 [] at_first octets ≡ outer_at octets
unfolding outer_at
first_gives octets = rw (le-ltb (length octets) 0 (omega arith)) (ap (λ (n : ℕ). walk_on (n + 1) at_first octets) (omega arith))

-- ---- the walk ended or failed

stays : (fault : Option Fault) (skip : ℕ) (header : List ℕ) (p : Progress) (a b : List ℕ) → (fault ≢ None) ⊎ ((skip ≡ 0) × (p.depth ≡ 0) × (0 < p.at))
    → resume_unless fault skip header p a ≡ resume_unless fault skip header p b
stays (Some f) skip header p a b stopped = refl
stays None skip header p a b (inl wrong) = absurd (wrong refl)
stays None skip header p a b (inr (none, over, some)) =
    rw (none, le-ltb (length a) 0 (omega arith), le-ltb (length b) 0 (omega arith), eq-eqb p.depth 0 over, lt-ltb 0 p.at some) refl

pub stopped_stays : (w : Walk) (a b : List ℕ) → IsStopped w → resumes w a ≡ resumes w b
stopped_stays w a b stopped = stays w.fault w.skip (take w.held w.header) w.progress a b stopped

-- ---- octets to skip

skips_unless : (fault : Option Fault) (count skip : ℕ) (header octets : List ℕ) (p : Progress) → count ≤ skip → count ≤ length octets
    → resume_unless fault (skip - count) header p (drop count octets) ≡ resume_unless fault skip header p octets
skips_unless (Some f) count skip header octets p fewer there = refl
skips_unless None count skip header octets p fewer there = skips count skip header octets p fewer there

-- what is left after the first octets, with more after it
left_with : (count : ℕ) (octets more : List ℕ) → count ≤ length octets → take (length octets - count) (drop count octets) ++ more ≡ drop count (octets ++ more)
left_with count octets more there =
    let all : take (length octets - count) (drop count octets) ≡ drop count octets =
    ap (λ (n : ℕ). take n (drop count octets)) (omega (arith, length-drop count octets)) ∙ take-length (drop count octets) in
    ap (λ (x : List ℕ). x ++ more) all ∙ sym (drop-append-le count octets more there)

pub skipped : (w : Walk) (count : ℕ) (octets more : List ℕ) → count ≤ w.skip → count ≤ length octets
    → resume_unless w.fault (w.skip - count) (take w.held w.header) w.progress (take (length octets - count) (drop count octets) ++ more) ≡ resumes w (octets ++ more)
skipped w count octets more fewer there =
    ap (resume_unless w.fault (w.skip - count) (take w.held w.header) w.progress) (left_with count octets more there)
    ∙ skips_unless w.fault count w.skip (take w.held w.header) (octets ++ more) w.progress fewer (omega (arith, there, length-append octets more))

-- ---- an octet of a header

-- the walk goes on: no octet to skip, no fault, and not at the end
record GoesOn (fault : Option Fault) (skip : ℕ) (p : Progress) : Type 0 where
  none : fault ≡ None
  nothing : skip ≡ 0
  not_over : (p.depth ≡ 0) × (0 < p.at) → ⊥

goes_on : (fault : Option Fault) (skip : ℕ) (p : Progress) → skip ≡ 0 → ((fault ≢ None) ⊎ ((skip ≡ 0) × (p.depth ≡ 0) × (0 < p.at)) → ⊥) → GoesOn fault skip p
goes_on (Some f) skip p nothing stopped = absurd (stopped (inl (λ e. cc)))
goes_on None skip p nothing stopped = record { none = refl; nothing = nothing; not_over = λ over. stopped (inr (nothing, over.0, over.1)) }

-- such a walk returns what its header and the next octets give
pub resumes_plainly : (w : Walk) (octets : List ℕ) → w.skip ≡ 0 → (IsStopped w → ⊥) → resumes w octets ≡ resume 0 (take w.held w.header) w.progress octets
resumes_plainly w octets nothing stopped =
    let g = goes_on w.fault w.skip w.progress nothing stopped in
    ap (λ (f : Option Fault). resume_unless f w.skip (take w.held w.header) w.progress octets) g.none
    ∙ ap (λ (skip : ℕ). resume skip (take w.held w.header) w.progress octets) nothing

pub not_over : (w : Walk) → w.skip ≡ 0 → (IsStopped w → ⊥) → (w.progress.depth ≡ 0) × (0 < w.progress.at) → ⊥
not_over w nothing stopped = (goes_on w.fault w.skip w.progress nothing stopped).not_over

pub octet_held : (w : Walk) (octet : ℕ) (more : List ℕ) → w.skip ≡ 0 → (IsStopped w → ⊥)
    → resume 0 (take w.held w.header ++ octet ∷ []) w.progress more ≡ resumes w (octet ∷ more)
octet_held w octet more nothing stopped =
    holds octet (take w.held w.header) more w.progress (not_over w nothing stopped) ∙ sym (resumes_plainly w (octet ∷ more) nothing stopped)

pub octet_fails : (w : Walk) (octet : ℕ) (more : List ℕ) (f : Fault) → w.skip ≡ 0 → (IsStopped w → ⊥)
    → opening_at (from w.progress.at (take w.held w.header ++ octet ∷ [])) ≡ Err f → resumes w (octet ∷ more) ≡ Err f
octet_fails w octet more f nothing stopped e =
    resumes_plainly w (octet ∷ more) nothing stopped ∙ fails octet (take w.held w.header) more w.progress f (not_over w nothing stopped) e

pub octet_fails_behind : (w : Walk) (octet : ℕ) (more : List ℕ) (opening : Opening) (f : Fault) → w.skip ≡ 0 → (IsStopped w → ⊥)
    → opening_at (from w.progress.at (take w.held w.header ++ octet ∷ [])) ≡ Ok (Some opening) → behind_header w.progress (take w.held w.header ++ octet ∷ []) opening ≡ Err f
    → resumes w (octet ∷ more) ≡ Err f
octet_fails_behind w octet more opening f nothing stopped e behind =
    resumes_plainly w (octet ∷ more) nothing stopped ∙ fails_behind octet (take w.held w.header) more w.progress opening f (not_over w nothing stopped) e behind

pub octet_goes_behind : (w : Walk) (octet : ℕ) (more : List ℕ) (opening : Opening) (next : Progress) → w.skip ≡ 0 → (IsStopped w → ⊥)
    → opening_at (from w.progress.at (take w.held w.header)) ≡ Ok None
    → opening_at (from w.progress.at (take w.held w.header ++ octet ∷ [])) ≡ Ok (Some opening) → behind_header w.progress (take w.held w.header ++ octet ∷ []) opening ≡ Ok next
    → resume (next.at - w.progress.at - (length (take w.held w.header) + 1)) [] next more ≡ resumes w (octet ∷ more)
octet_goes_behind w octet more opening next nothing stopped none e behind =
    goes_behind octet (take w.held w.header) more w.progress next opening (not_over w nothing stopped) none e behind ∙ sym (resumes_plainly w (octet ∷ more) nothing stopped)

-- if the walk holds no octets, a whole header is read from the next ones
pub whole_goes_behind : (w : Walk) (len : ℕ) (octets more : List ℕ) (opening : Opening) (next : Progress) → w.skip ≡ 0 → (IsStopped w → ⊥) → w.held ≡ 0 → len ≡ header_octets opening
    → opening_at (from w.progress.at octets) ≡ Ok (Some opening) → behind_header w.progress octets opening ≡ Ok next
    → resume (next.at - w.progress.at - len) [] next (take (length octets - len) (drop len octets) ++ more) ≡ resumes w (octets ++ more)
whole_goes_behind w len octets more opening next nothing stopped none len_is read behind =
    ap (resume (next.at - w.progress.at - len) [] next) (left_with len octets more (omega (arith, len_is, opening_within w.progress.at octets opening read)))
    ∙ ap (λ (n : ℕ). resume (next.at - w.progress.at - n) [] next (drop n (octets ++ more))) len_is
    ∙ goes_behind_whole octets more w.progress next opening (not_over w nothing stopped) read behind
    ∙ ap (λ (n : ℕ). resume 0 (take n w.header) w.progress (octets ++ more)) (sym none)
    ∙ sym (resumes_plainly w (octets ++ more) nothing stopped)

-- a walk with these parts
pub gives_by : (w : Walk) (skip : ℕ) (header : List ℕ) (next : Progress) (more : List ℕ) → w.fault ≡ None → w.skip ≡ skip → w.progress ≡ next → take w.held w.header ≡ header
    → resumes w more ≡ resume skip header next more
gives_by w skip header next more fault skip_is progress octets =
    ap (λ (f : Option Fault). resume_unless f w.skip (take w.held w.header) w.progress more) fault
    ∙ ap (λ (n : ℕ). resume n (take w.held w.header) w.progress more) skip_is
    ∙ ap (λ (x : List ℕ). resume skip x w.progress more) octets
    ∙ ap (λ (p : Progress). resume skip header p more) progress

-- the octets or the walk ended
pub ends_with : (w old : Walk) (rest octets : List ℕ) → ((more : List ℕ) → resumes w (rest ++ more) ≡ resumes old (octets ++ more)) → (rest ≡ []) ⊎ IsStopped w
    → (more : List ℕ) → resumes w more ≡ resumes old (octets ++ more)
ends_with w old rest octets same (inl none) more = ap (λ (x : List ℕ). resumes w (x ++ more)) (sym none) ∙ same more
ends_with w old rest octets same (inr stopped) more = stopped_stays w more (rest ++ more) stopped ∙ same more
