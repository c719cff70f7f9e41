-- What exact reading means for views and for owned values.
use Rattle.std.proofs.Common.{◌≡◌, ◌≢◌, ℕ, List, ◌++◌, length, Result, Ok, Err, sym, ap, subst, ◌∙◌}
use Rattle.std.specs.Prelude.{IfOk, IfErr, IsOkAnd, ◌↔◌}
use Rattle.tcap_ber.specs.declared.fault.Fault.{Fault}
use Rattle.tcap_ber.specs.declared.fault.Reason.TheVariants as reasons
use Rattle.tcap_ber.specs.Reading.{Gives}
use Rattle.tcap_ber.proofs.Steps.{ok_is}
use Rattle.tcap_ber.proofs.ResultLaws.{gives_err}
use Rattle.tcap_msg.specs.declared.message.Message.{Message}
use Rattle.tcap_msg.specs.declared.message.DecodeFault.{DecodeFault}
use Rattle.tcap_msg.specs.declared.message.DecodeFault.TheVariants as faults
use Rattle.tcap_msg.specs.Message.{Spells, BeginsWithMessage, BeginsNoMessage, IsNeverMessage, IsFaulty}
use Rattle.tcap_msg.specs.Reading.{message_at}
use Rattle.tcap_msg.specs.Decode.{Decodes, IfRefused}
use Rattle.tcap_msg.proofs.MessageLaws.{message_sound, message_complete, message_refused, message_stops, begins_no_message, never_message}

begins : (octets : List ℕ) (x : Message × ℕ) → message_at octets ≡ Ok x → BeginsWithMessage x.0 x.1 octets
begins octets x e =
    let f = message_sound octets x e in
    record { front = f.0; rest = f.1; joined = f.2; len_is = f.3; spelled = f.4 }

is_read : (octets : List ℕ) (m : Message) (front rest : List ℕ) → Spells m front → octets ≡ front ++ rest → message_at octets ≡ Ok (m, length front)
is_read octets m front rest spelled joined = ap message_at joined ∙ message_complete m front rest spelled

-- ---- a view

pub view_found : {X : Type 0} (meaning : X → Message) (octets : List ℕ) (r : Result (X × ℕ) Fault) → Gives (λ x. (meaning x.0, x.1)) r (message_at octets)
    → IfOk r (λ x. BeginsWithMessage (meaning x.0) x.1 octets)
view_found meaning octets (Ok x) e = begins octets (meaning x.0, x.1) e
view_found meaning octets (Err f) e = tt

pub view_only : {X : Type 0} (meaning : X → Message) (octets : List ℕ) (r : Result (X × ℕ) Fault) → Gives (λ x. (meaning x.0, x.1)) r (message_at octets)
    → (m : Message) (front rest : List ℕ) → Spells m front → octets ≡ front ++ rest → IsOkAnd r (λ x. (meaning x.0 ≡ m) × (x.1 ≡ length front))
view_only meaning octets (Ok x) e m front rest spelled joined =
    let same : (meaning x.0, x.1) ≡ (m, length front) = ok_is (meaning x.0, x.1) (m, length front) (sym e ∙ is_read octets m front rest spelled joined) in
    (ap (λ (y : Message × ℕ). y.0) same, ap (λ (y : Message × ℕ). y.1) same)
view_only meaning octets (Err f) e m front rest spelled joined = absurd (begins_no_message octets f e m front rest spelled joined)

pub view_faulty : {X : Type 0} (meaning : X → Message) (octets : List ℕ) (r : Result (X × ℕ) Fault) → Gives (λ x. (meaning x.0, x.1)) r (message_at octets)
    → (f : Fault) → (r ≡ Err f) ↔ IsFaulty octets f.reason f.place
view_faulty meaning octets r e f =
    let k = gives_err (λ x. (meaning x.0, x.1)) r (message_at octets) e f in (λ h. message_refused octets f (k.0 h), λ w. k.1 (message_stops octets f w))

pub view_none : {X : Type 0} (meaning : X → Message) (octets : List ℕ) (r : Result (X × ℕ) Fault) → Gives (λ x. (meaning x.0, x.1)) r (message_at octets)
    → IfErr r (λ f. BeginsNoMessage octets)
view_none meaning octets (Ok x) e = tt
view_none meaning octets (Err f) e = begins_no_message octets f e

pub view_never : {X : Type 0} (meaning : X → Message) (octets : List ℕ) (r : Result (X × ℕ) Fault) → Gives (λ x. (meaning x.0, x.1)) r (message_at octets)
    → IfErr r (λ f. f.reason ≢ reasons.Cut → IsNeverMessage octets)
view_never meaning octets (Ok x) e = tt
view_never meaning octets (Err f) e = never_message octets f e

-- ---- a value

pub value_found : (octets : List ℕ) (r : Result (Message × ℕ) DecodeFault) → Decodes r (message_at octets) → IfOk r (λ x. BeginsWithMessage x.0 x.1 octets)
value_found octets (Ok x) e = begins octets x e
value_found octets (Err f) e = tt

pub value_only : (octets : List ℕ) (r : Result (Message × ℕ) DecodeFault) → Decodes r (message_at octets)
    → (m : Message) (front rest : List ℕ) → Spells m front → octets ≡ front ++ rest → Decodes r (Ok (m, length front))
value_only octets (Ok x) e m front rest spelled joined = sym (is_read octets m front rest spelled joined) ∙ e
value_only octets (Err (faults.Fault f)) e m front rest spelled joined = absurd (begins_no_message octets f e m front rest spelled joined)
value_only octets (Err faults.Memory) e m front rest spelled joined = tt

pub value_faulty : (octets : List ℕ) (r : Result (Message × ℕ) DecodeFault) → Decodes r (message_at octets) → IfRefused r (λ f. IsFaulty octets f.reason f.place)
value_faulty octets (Ok x) e = tt
value_faulty octets (Err (faults.Fault f)) e = message_refused octets f e
value_faulty octets (Err faults.Memory) e = tt

pub value_refused : (octets : List ℕ) (r : Result (Message × ℕ) DecodeFault) → Decodes r (message_at octets) → (f : Fault) → IsFaulty octets f.reason f.place → Decodes r (Err f)
value_refused octets r e f wrong = subst (λ (read : Result (Message × ℕ) Fault). Decodes r read) (message_stops octets f wrong) e

pub value_none : (octets : List ℕ) (r : Result (Message × ℕ) DecodeFault) → Decodes r (message_at octets) → IfRefused r (λ f. BeginsNoMessage octets)
value_none octets (Ok x) e = tt
value_none octets (Err (faults.Fault f)) e = begins_no_message octets f e
value_none octets (Err faults.Memory) e = tt

pub value_never : (octets : List ℕ) (r : Result (Message × ℕ) DecodeFault) → Decodes r (message_at octets) → IfRefused r (λ f. f.reason ≢ reasons.Cut → IsNeverMessage octets)
value_never octets (Ok x) e = tt
value_never octets (Err (faults.Fault f)) e = never_message octets f e
value_never octets (Err faults.Memory) e = tt
