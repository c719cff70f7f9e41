-- What does it mean that a reader is exact? A value that it returns is spelled there (`sound`), and a spelled value is
-- returned (`complete`). A fault that it returns is there (`refuses`), and a fault that is there is returned (`stops`).
use Rattle.std.specs.Prelude.{◌≡◌, ℕ, List, ◌++◌, Result, Ok, Err}
use Rattle.tcap_ber.specs.declared.fault.Fault.{Fault}
use Rattle.tcap_ber.specs.Grammar.{Body, Field, Content, after}
use Rattle.tcap_ber.specs.Choice.{Choice}
use Rattle.tcap_ber.specs.FrontElement.{Taken}
use Rattle.tcap_ber.specs.Span.{Span}
use Rattle.tcap_ber.specs.Reading.{Element}

-- a reader of a part at the front of a window, which also returns the window after it
pub record ReadsField {V : Type 0} (part : Field V) (read : Span → Result (V × Span) Fault) : Type 0 where
  pub sound : (s : Span) (v : V) (rest : Span) → read s ≡ Ok (v, rest) → Taken part s v rest
  pub complete : (place : ℕ) (v : V) (front rest : List ℕ) → part.spells v front rest
      → read (record { octets = front ++ rest; place = place }) ≡ Ok (v, after place front rest)
  pub refuses : (s : Span) (f : Fault) → read s ≡ Err f → part.faulty s f.reason f.place
  pub stops : (s : Span) (f : Fault) → part.faulty s f.reason f.place → read s ≡ Err f

-- a reader of an element's content
pub record ReadsBody {V : Type 0} (body : Body V) (read : Element → Result V Fault) : Type 0 where
  pub sound : (e : Element) (v : V) → read e ≡ Ok v → body.spells v e.content.octets
  pub complete : (e : Element) (v : V) → body.spells v e.content.octets → read e ≡ Ok v
  pub refuses : (e : Element) (f : Fault) → read e ≡ Err f → body.faulty e.place e.content f.reason f.place
  pub stops : (e : Element) (f : Fault) → body.faulty e.place e.content f.reason f.place → read e ≡ Err f

-- a reader of the alternatives of a choice, each by its tag
pub record ReadsChoice {V : Type 0} (choice : Choice V) (read : Element → Result V Fault) : Type 0 where
  pub sound : (e : Element) (v : V) → read e ≡ Ok v → choice.spells v e.tag e.content.octets
  pub complete : (e : Element) (v : V) → choice.spells v e.tag e.content.octets → read e ≡ Ok v
  pub refuses : (e : Element) (f : Fault) → read e ≡ Err f → choice.faulty e.tag e.place e.content f.reason f.place
  pub stops : (e : Element) (f : Fault) → choice.faulty e.tag e.place e.content f.reason f.place → read e ≡ Err f

-- a reader of the rest of a structure, which makes a value of the parts
pub record ReadsContent {V W : Type 0} (content : Content V) (make : V → W)
    (read : Span → Result W Fault) : Type 0 where
  pub sound : (s : Span) (w : W) → read s ≡ Ok w → (v : V) × (w ≡ make v) × content.spells v s.octets
  pub complete : (s : Span) (v : V) → content.spells v s.octets → read s ≡ Ok (make v)
  pub refuses : (s : Span) (f : Fault) → read s ≡ Err f → content.faulty s f.reason f.place
  pub stops : (s : Span) (f : Fault) → content.faulty s f.reason f.place → read s ≡ Err f
