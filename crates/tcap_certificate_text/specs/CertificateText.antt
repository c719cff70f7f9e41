-- Which text represents a certificate: a JSON object (RFC 8259) in the shape of this profile.
use Rattle.std.specs.Prelude.{◌≡◌, ◌≤◌, ℕ, ℤ, pos, Bool, false, List, [], ◌∷◌, codes, length, map, Option, Some, None, option_and_then, option_map, cond, nat_le, ◌&&◌, ◌==◌}
use Rattle.std.specs.List.{AllByRecursion}
use Rattle.std.specs.Str.{bytes_eq}
use Rattle.serde_json.specs.Data.{Data, number, unsigned, string, array, object, Items, no_items, item, Members, no_members, member}
use Rattle.serde_json.specs.Find.{get_member}
use Rattle.tcap_record.specs.declared.entry.End.{End as Side}
use Rattle.tcap_record.specs.declared.entry.End.TheVariants.{A, B}
use Rattle.tcap_end.specs.TableText.{IsJson, has_only, whole_in}
use Rattle.tcap_certificate.specs.declared.certificate.Closing.{Closing}
use Rattle.tcap_certificate.specs.declared.certificate.Expiry.{Expiry}
use Rattle.tcap_certificate.specs.declared.certificate.Fate.{Fate}
use Rattle.tcap_certificate.specs.declared.certificate.Fate.TheVariants.{Gap, Lost, By}
use Rattle.tcap_certificate.specs.Certificate.{Certificate, fates_limit, number_limit}

-- the version of the text's format
abbrev pub version : ℕ
version = 1

-- ---- reading

-- a whole number from 0 to the limit, or None
abbrev pub number_by : ℤ → Option ℕ
number_by (pos n) = cond (nat_le n number_limit) (Some n) None
number_by _ = None

-- a whole number of data, from 0 to the limit, or None
abbrev pub number_in : Data → Option ℕ
number_in d = option_and_then number_by (whole_in d)

-- the value if the text has this name, else the others
abbrev pub if_text : {A : Type 0} → List ℕ → A → List ℕ → Option A → Option A
if_text name value text others = cond (bytes_eq text name) (Some value) others

-- an end, by its letter
abbrev pub side_in : Data → Option Side
side_in (string text) = if_text (codes "A") A text (if_text (codes "B") B text None)
side_in _ = None

-- the fate of a message: the number of a gap, `"lost"`, or `{"by": N}` with the entry of the Abort that answered the
-- message
abbrev pub fate_in : Data → Option Fate
fate_in (string text) = if_text (codes "lost") Lost text None
fate_in (object members) =
    cond (has_only (codes "by" ∷ []) members)
    (option_map By (option_and_then number_in (get_member (codes "by") members))) None
fate_in d = option_map Gap (number_in d)

-- the number at a key of an object, or None
abbrev pub number_at : List ℕ → Members → Option ℕ
number_at key members = option_and_then number_in (get_member key members)

-- the end at a key of an object, or None
abbrev pub side_at : List ℕ → Members → Option Side
side_at key members = option_and_then side_in (get_member key members)

abbrev pub closing_by : Option ℕ → Option Side → Option ℕ → Option Closing
closing_by (Some gap) (Some side) (Some entry) = Some (record { gap = gap; side = side; entry = entry })
closing_by _ _ _ = None

-- a closing, with its gap, its end and its entry, or None
abbrev pub closing_in : Data → Option Closing
closing_in (object members) = cond (has_only (codes "at" ∷ codes "end" ∷ codes "entry" ∷ []) members)
    (closing_by (number_at (codes "at") members) (side_at (codes "end") members) (number_at (codes "entry") members))
    None
closing_in _ = None

abbrev pub expiry_by : Option ℕ → Option ℕ → Option Side → Option ℕ → Option Expiry
expiry_by (Some gap) (Some component) (Some side) (Some entry) =
    Some (record { gap = gap; component = component; side = side; entry = entry })
expiry_by _ _ _ _ = None

-- an expiry, with its gap, its component, its end and its entry, or None
abbrev pub expiry_in : Data → Option Expiry
expiry_in (object members) = cond (has_only (codes "at" ∷ codes "component" ∷ codes "end" ∷ codes "entry" ∷ []) members)
    (expiry_by (number_at (codes "at") members) (number_at (codes "component") members) (side_at (codes "end") members)
    (number_at (codes "entry") members))
    None
expiry_in _ = None

-- the list of the values of all items, or None if one item has none
abbrev pub each_in : {A : Type 0} → (Data → Option A) → Items → Option (List A)
each_in one no_items = Some []
each_in one (item d more) = option_and_then (λ first. option_map (λ rest. first ∷ rest) (each_in one more)) (one d)

-- the values of a list, or None
abbrev pub list_in : {A : Type 0} → (Data → Option A) → Data → Option (List A)
list_in one (array items) = each_in one items
list_in one _ = None

-- the values of the list at a key of an object, or None
abbrev pub list_at : {A : Type 0} → (Data → Option A) → List ℕ → Members → Option (List A)
list_at one key members = option_and_then (list_in one) (get_member key members)

abbrev pub is_version : Option ℕ → Bool
is_version None = false
is_version (Some n) = n == version

-- the certificate of these lists, or None if one is missing or there are too many fates
abbrev pub certificate_by : Option (List Closing) → Option (List Expiry) → Option (List Fate) → Option Certificate
certificate_by (Some close) (Some expire) (Some fates) =
    cond (nat_le (length fates) fates_limit) (Some (record { fates = fates; expire = expire; close = close })) None
certificate_by _ _ _ = None

-- the keys of a certificate's object
abbrev pub certificate_keys : List (List ℕ)
certificate_keys = codes "close" ∷ codes "expire" ∷ codes "fates" ∷ codes "version" ∷ []

-- the certificate that the data represents, or None if the data has not its shape
abbrev pub certificate_in : Data → Option Certificate
certificate_in (object members) =
    cond (has_only certificate_keys members && is_version (number_at (codes "version") members))
    (certificate_by (list_at closing_in (codes "close") members) (list_at expiry_in (codes "expire") members)
    (list_at fate_in (codes "fates") members))
    None
certificate_in _ = None

-- The octets are a JSON text that represents this certificate.
abbrev pub IsCertificateText : List ℕ → Certificate → Type 0
IsCertificateText octets c = (d : Data) × IsJson octets d × (certificate_in d ≡ Some c)

-- ---- writing

-- the data of a number
abbrev pub number_data : ℕ → Data
number_data n = number (unsigned n)

-- the data of an end, its letter
abbrev pub side_data : Side → Data
side_data A = string (codes "A")
side_data B = string (codes "B")

-- the data of a fate
abbrev pub fate_data : Fate → Data
fate_data (Gap gap) = number_data gap
fate_data Lost = string (codes "lost")
fate_data (By reply) = object (member (codes "by") (number_data reply) no_members)

-- the data of a closing, with its keys in order
abbrev pub closing_data : Closing → Data
closing_data x = object (member (codes "at") (number_data x.gap) (member (codes "end") (side_data x.side)
    (member (codes "entry") (number_data x.entry) no_members)))

-- the data of an expiry, with its keys in order
abbrev pub expiry_data : Expiry → Data
expiry_data x = object (member (codes "at") (number_data x.gap) (member (codes "component") (number_data x.component)
    (member (codes "end") (side_data x.side) (member (codes "entry") (number_data x.entry) no_members))))

abbrev pub items_of : List Data → Items
items_of [] = no_items
items_of (d ∷ more) = item d (items_of more)

-- the data of a list of values
abbrev pub list_data : {A : Type 0} → (A → Data) → List A → Data
list_data one values = array (items_of (map one values))

-- the data of a certificate, with its keys in order
abbrev pub certificate_data : Certificate → Data
certificate_data c = object (member (codes "close") (list_data closing_data c.close)
    (member (codes "expire") (list_data expiry_data c.expire)
    (member (codes "fates") (list_data fate_data c.fates) (member (codes "version") (number_data version) no_members))))
