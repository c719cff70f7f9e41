-- The certificate found for a segment is the one proposed for it.
use Rattle.std.proofs.Common.{◌≡◌, Bool, true, List, ap, refl, ℕ, ◌+◌, ◌≤◌, length, map, Option, None, Some, sym, subst, ◌∙◌}
use Rattle.std.specs.Prelude.{◌&&◌}
use Rattle.std.specs.Bool.{Decides}
use Rattle.std.specs.Cmp.Lexicographic.{pointwise}
use Rattle.std.proofs.lemmas.Bool.{and_from, and_parts}
use Rattle.std.proofs.lemmas.Bool.Decides.{Decides-eqb}
use Rattle.std.proofs.lemmas.Slice.Eq.{slice_eq-Decides}
use Rattle.tcap_record.specs.declared.entry.End.{End as Side}
use Rattle.tcap_record.specs.declared.entry.End.TheVariants.{A, B}
use Rattle.tcap_record.specs.contracts.entry.EndPartialEq.TheImpl as side_eq
use Rattle.tcap_certificate.specs.contracts.certificate.ClosingPartialEq.TheImpl as closing_eq
use Rattle.tcap_certificate.specs.contracts.certificate.ExpiryPartialEq.TheImpl as expiry_eq
use Rattle.tcap_certificate.specs.contracts.certificate.FatePartialEq.TheImpl as fate_eq
use Rattle.tcap_certificate.specs.declared.certificate.Closing.{Closing}
use Rattle.tcap_certificate.specs.declared.certificate.Expiry.{Expiry}
use Rattle.tcap_certificate.specs.declared.certificate.Fate.{Fate}
use Rattle.tcap_certificate.specs.declared.certificate.Fate.TheVariants.{Gap, Lost, By}
use Rattle.tcap_record.specs.declared.entry.Entry.{Entry}
use Rattle.tcap_certificate.specs.Certificate.{Certificate}
use Rattle.tcap_search.specs.SegmentEntries.{lines_of}
use Rattle.tcap_search.specs.ProposedCertificate.{Fated, all_fated, closings_of, expiries_of, fated, number_limit, of_segment, ties_of}
use Rattle.tcap_search.specs.CertificateSoFar.{FitsBehind}
use Rattle.tcap_search.specs.DeliveryOrder.{AreInOrder}
use Rattle.tcap_search.specs.SegmentLists.{AreFates}
use Rattle.tcap_search.proofs.LimitLaws.{closings_fit, expiries_fit, fates_fit}
use Rattle.tcap_search.proofs.LossLaws.{all_is, before_losses, losses_order}

pub fate_decides : (a b : Fate) → Decides (fate_eq.eq-value.it a b) (a ≡ b)
fate_decides (Gap g) (Gap h) = (λ e. ap Gap ((Decides-eqb g h).0 e), λ e. (Decides-eqb g h).1 cc)
fate_decides (Gap g) Lost = (λ e. cc, λ e. cc)
fate_decides (Gap g) (By r) = (λ e. cc, λ e. cc)
fate_decides Lost (Gap h) = (λ e. cc, λ e. cc)
fate_decides Lost Lost = (λ _. refl, λ _. refl)
fate_decides Lost (By r) = (λ e. cc, λ e. cc)
fate_decides (By r) (Gap h) = (λ e. cc, λ e. cc)
fate_decides (By r) Lost = (λ e. cc, λ e. cc)
fate_decides (By r) (By s) = (λ e. ap By ((Decides-eqb r s).0 e), λ e. (Decides-eqb r s).1 cc)

side_decides : (a b : Side) → Decides (side_eq.eq-value.it a b) (a ≡ b)
side_decides A A = (λ _. refl, λ _. refl)
side_decides A B = (λ e. cc, λ e. cc)
side_decides B A = (λ e. cc, λ e. cc)
side_decides B B = (λ _. refl, λ _. refl)

and_decides : {P Q : Type 0} (p q : Bool) → Decides p P → Decides q Q → Decides (p && q) (P × Q)
and_decides p q is_p is_q = (
  λ e. let (first, second) = and_parts p q e in (is_p.0 first, is_q.0 second),
  λ both. and_from p q (is_p.1 both.0) (is_q.1 both.1),
)

expiry_is : (a b : Expiry)
    → (a.gap ≡ b.gap) × ((a.component ≡ b.component) × ((a.side ≡ b.side) × (a.entry ≡ b.entry))) → a ≡ b
expiry_is a b (gap, (component, (side, entry))) =
    λ i. record { gap = gap i; component = component i; side = side i; entry = entry i }

pub expiry_decides : (a b : Expiry) → Decides (expiry_eq.eq-value.it a b) (a ≡ b)
expiry_decides a b =
    let parts : Decides (expiry_eq.eq-value.it a b)
    ((a.gap ≡ b.gap) × ((a.component ≡ b.component) × ((a.side ≡ b.side) × (a.entry ≡ b.entry)))) =
    and_decides _ _ (Decides-eqb a.gap b.gap)
    (and_decides _ _ (Decides-eqb a.component b.component)
    (and_decides _ _ (side_decides a.side b.side) (Decides-eqb a.entry b.entry))) in (
      λ e. expiry_is a b (parts.0 e),
      λ e.
          parts.1 (
            ap (λ (x : Expiry). x.gap) e,
            (
              ap (λ (x : Expiry). x.component) e,
              (ap (λ (x : Expiry). x.side) e, ap (λ (x : Expiry). x.entry) e),
            ),
          ),
    )

closing_is : (a b : Closing) → (a.gap ≡ b.gap) × ((a.side ≡ b.side) × (a.entry ≡ b.entry)) → a ≡ b
closing_is a b (gap, (side, entry)) = λ i. record { gap = gap i; side = side i; entry = entry i }

pub closing_decides : (a b : Closing) → Decides (closing_eq.eq-value.it a b) (a ≡ b)
closing_decides a b =
    let parts : Decides (closing_eq.eq-value.it a b) ((a.gap ≡ b.gap) × ((a.side ≡ b.side) × (a.entry ≡ b.entry))) =
    and_decides _ _ (Decides-eqb a.gap b.gap)
    (and_decides _ _ (side_decides a.side b.side) (Decides-eqb a.entry b.entry)) in (
      λ e. closing_is a b (parts.0 e),
      λ e.
          parts.1
          (ap (λ (x : Closing). x.gap) e, (ap (λ (x : Closing). x.side) e, ap (λ (x : Closing). x.entry) e)),
    )

-- `==` decides equality of lists of them.
pub same_fates : (xs ys : List Fate) → pointwise fate_eq.eq-value.it xs ys ≡ true → xs ≡ ys
same_fates xs ys = (slice_eq-Decides fate_decides xs ys _ refl).0

pub same_expiries : (xs ys : List Expiry) → pointwise expiry_eq.eq-value.it xs ys ≡ true → xs ≡ ys
same_expiries xs ys = (slice_eq-Decides expiry_decides xs ys _ refl).0

pub same_closings : (xs ys : List Closing) → pointwise closing_eq.eq-value.it xs ys ≡ true → xs ≡ ys
same_closings xs ys = (slice_eq-Decides closing_decides xs ys _ refl).0

-- ---- the certificate found for a segment is the one proposed for it

pub certificate_is : (c d : Certificate) → c.fates ≡ d.fates → c.expire ≡ d.expire → c.close ≡ d.close → c ≡ d
certificate_is c d p q r = λ i. record { fates = p i; expire = q i; close = r i }

module _ (judged : Option Side) (marked : Bool) (entries : List Entry) (fates : List Fate)
    (are : AreFates judged marked entries fates) where
  pub in_order : AreInOrder (fated (lines_of entries) fates)
  in_order = subst AreInOrder (sym (all_is judged marked entries fates are))
      (losses_order (before_losses judged marked (lines_of entries)))

  pub expiries_are : (listed : List Expiry)
      → listed ≡ expiries_of (fated (lines_of entries) fates) (lines_of entries)
      → listed ≡ (of_segment judged marked entries).expire
  expiries_are listed is =
      is ∙ ap (λ (all : List Fated). expiries_of all (lines_of entries)) (all_is judged marked entries fates are)

  pub closings_are : (listed : List Closing)
      → listed ≡ closings_of (fated (lines_of entries) fates) (lines_of entries) (ties_of (lines_of entries))
      → listed ≡ (of_segment judged marked entries).close
  closings_are listed is =
      is
      ∙ ap (λ (all : List Fated). closings_of all (lines_of entries) (ties_of (lines_of entries)))
      (all_is judged marked entries fates are)

  -- The three parts make the certificate of the segment.
  pub segment_is : (new : Certificate) → new.fates ≡ fates
      → new.expire ≡ expiries_of (fated (lines_of entries) fates) (lines_of entries)
      → new.close ≡ closings_of (fated (lines_of entries) fates) (lines_of entries) (ties_of (lines_of entries))
      → new ≡ of_segment judged marked entries
  segment_is new new_fates new_expire new_close =
      certificate_is new _ (new_fates ∙ are) (expiries_are new.expire new_expire) (closings_are new.close new_close)

-- Segments with equal fates have equal certificates.
pub same_segment : (judged other : Option Side) (marked : Bool) (entries : List Entry)
    → AreFates judged marked entries ((of_segment other marked entries).fates)
    → of_segment other marked entries ≡ of_segment judged marked entries
same_segment judged other marked entries are =
    let all : all_fated other marked (lines_of entries) ≡ all_fated judged marked (lines_of entries) =
    sym (all_is other marked entries ((of_segment other marked entries).fates) refl)
    ∙ all_is judged marked entries ((of_segment other marked entries).fates) are in
    ap
    (λ (all : List Fated). record {
      fates = map (λ x. x.fate) all;
      expire = expiries_of all (lines_of entries);
      close = closings_of all (lines_of entries) (ties_of (lines_of entries));
    })
    all

-- The certificate for one end alone is that for both, if the fates are equal.
pub same_as_both : (side : Side) (marked : Bool) (entries : List Entry) (both : Certificate)
    → both ≡ of_segment None marked entries
    → (fates : List Fate) → AreFates (Some side) marked entries fates → fates ≡ both.fates
    → both ≡ of_segment (Some side) marked entries
same_as_both side marked entries both is fates are same =
    is
    ∙ same_segment (Some side) None marked entries
    (sym (ap (λ (c : Certificate). c.fates) is) ∙ sym same ∙ are)

-- It is within the limits after `first` entries.
pub fits_after : (judged : Option Side) (marked : Bool) (first : ℕ) (entries : List Entry)
    → first + length entries ≤ number_limit → (c : Certificate) → c ≡ of_segment judged marked entries
    → FitsBehind first c
fits_after judged marked first entries few c is = (
  fates_fit judged marked first entries few c.fates (ap (λ (c : Certificate). c.fates) is),
  expiries_fit judged marked first entries few c.expire (ap (λ (c : Certificate). c.expire) is),
  closings_fit judged marked first entries few c.close (ap (λ (c : Certificate). c.close) is),
)
