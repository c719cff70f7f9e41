-- Octets spell at most one message, and no spelling is the beginning of another.
use Rattle.std.proofs.Common.{◌≡◌, ℕ, List, [], ◌++◌, length, refl, sym, ap, ◌∙◌, arith}
use Rattle.std.proofs.lemmas.List.{append-nil, length-append, nil_from_length}
use Rattle.tcap_ber.proofs.Steps.{ok_is}
use Rattle.tcap_msg.specs.declared.message.Message.{Message}
use Rattle.tcap_msg.specs.Message.{Spells}
use Rattle.tcap_msg.specs.Reading.{message_at}
use Rattle.tcap_msg.proofs.MessageLaws.{message_complete}

-- two messages at the front of the same octets are equal
pub same_reading : (m m' : Message) (front rest front' rest' : List ℕ) → Spells m front → Spells m' front' → front ++ rest ≡ front' ++ rest' → (m ≡ m') × (length front ≡ length front')
same_reading m m' front rest front' rest' s s' e =
    let same : (m, length front) ≡ (m', length front') =
    ok_is (m, length front) (m', length front') (sym (message_complete m front rest s) ∙ ap message_at e ∙ message_complete m' front' rest' s') in
    (ap (λ (x : Message × ℕ). x.0) same, ap (λ (x : Message × ℕ). x.1) same)

pub one_message : (octets : List ℕ) (m m' : Message) → Spells m octets → Spells m' octets → m ≡ m'
one_message octets m m' s s' = (same_reading m m' octets [] octets [] s s' refl).0

pub no_longer_spelling : (octets more : List ℕ) (m m' : Message) → Spells m octets → Spells m' (octets ++ more) → more ≡ []
no_longer_spelling octets more m m' s s' =
    let same = same_reading m m' octets more (octets ++ more) [] s s' (sym (append-nil (octets ++ more))) in
    nil_from_length more (omega (arith, same.1, length-append octets more))
