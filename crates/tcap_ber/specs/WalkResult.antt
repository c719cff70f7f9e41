-- What does a walk over an element's octets return? It goes from left to right, up to the element's end or the first
-- fault.
use Rattle.std.specs.Prelude.{Bool, false, ◌&&◌, ℕ, zero, suc, ◌+◌, ◌-◌, ◌*◌, List, [], ◌∷◌, ◌++◌, length, drop, Option, Some, None, Result, Ok, Err, nat_lt, ◌==◌, if◌then◌else◌}
use Rattle.tcap_ber.specs.declared.fault.Fault.{Fault}
use Rattle.tcap_ber.specs.declared.fault.Reason.TheVariants.{TooLong, TooDeep}
use Rattle.tcap_ber.specs.declared.header.Opening.{Opening}
use Rattle.tcap_ber.specs.declared.header.Opening.TheVariants.{Definite, Indefinite}
use Rattle.tcap_ber.specs.declared.progress.Progress.{Progress}
use Rattle.tcap_ber.specs.declared.element.Outer.{Outer}
use Rattle.tcap_ber.specs.declared.element.Outer.TheVariants.{Whole, Need}
use Rattle.tcap_ber.specs.Element.{content_limit, depth_limit}
use Rattle.tcap_ber.specs.HeaderReading.{fault, ◌>>=◌, opening_at}

-- the octets begin with end-of-contents octets (X.690 8.1.5)
abbrev pub is_ending : List ℕ → Bool
is_ending [] = false
is_ending (first ∷ []) = false
is_ending (first ∷ second ∷ more) = (first == 0) && (second == 0)

-- the progress `next`, or TooLong if the content of the outermost open element is then over the limit
abbrev pub within_limit : Progress → Progress → Result Progress Fault
within_limit p next = if nat_lt p.limit next.at then Err (fault TooLong 0) else Ok next

-- the progress after a header of `len` octets that opens an element of indefinite length
abbrev pub opened : Progress → ℕ → Result Progress Fault
opened p len =
    if nat_lt p.depth depth_limit
    then (if p.depth == 0 then Ok (record { at = p.at + len; depth = 1; limit = p.at + len + content_limit })
    else within_limit p (record { at = p.at + len; depth = p.depth + 1; limit = p.limit }))
    else Err (fault TooDeep p.at)

-- the progress after the end-of-contents octets of the innermost open element; the outermost element's do not count as
-- its content
abbrev pub closed : Progress → Result Progress Fault
closed p =
    if p.depth == 1 then Ok (record { at = p.at + 2; depth = 0; limit = p.limit })
    else within_limit p (record { at = p.at + 2; depth = p.depth - 1; limit = p.limit })

-- the progress after an element of definite length of `len` octets
abbrev pub passed : Progress → ℕ → Result Progress Fault
passed p len =
    if p.depth == 0 then Ok (record { at = p.at + len; depth = 0; limit = p.limit })
    else within_limit p (record { at = p.at + len; depth = p.depth; limit = p.limit })

-- the progress after what this header begins: a whole element of definite length, the header of one of indefinite
-- length, or end-of-contents octets
abbrev pub behind_header : Progress → List ℕ → Opening → Result Progress Fault
behind_header p octets (Indefinite tag) = opened p (tag + 1)
behind_header p octets (Definite h) =
    if nat_lt 0 p.depth && is_ending octets then closed p else passed p (h.len + h.content_len)

-- The walk's result from `next` on: too few octets are left, or the outermost element has ended, or the walk goes on.
abbrev pub gone_to : (Progress → List ℕ → Result Outer Fault) → Progress → List ℕ → Progress → Result Outer Fault
gone_to walk p octets next =
    if nat_lt (length octets) (next.at - p.at) then Ok (Need (next.at + 2 * next.depth))
    else (if next.depth == 0 then Ok (Whole next.at) else walk next (drop (next.at - p.at) octets))

-- the walk's result after reading a header, or one more octet if the header is incomplete
abbrev pub gone_on : (Progress → List ℕ → Result Outer Fault) → Progress → List ℕ → Option Opening → Result Outer Fault
gone_on walk p octets None = Ok (Need (p.at + length octets + 1))
gone_on walk p octets (Some opening) = behind_header p octets opening >>= gone_to walk p octets

-- the walk over at most n headers and end-of-contents octets
abbrev pub walk_on : ℕ → Progress → List ℕ → Result Outer Fault
walk_on zero p octets = Ok (Need (p.at + length octets + 1))
walk_on (suc n) p octets = opening_at (record { octets = octets; place = p.at }) >>= gone_on (walk_on n) p octets

-- the progress before the first octet
abbrev pub at_first : Progress
at_first = record { at = 0; depth = 0; limit = 0 }

-- The length of the element at the front, or the least number of octets that it has. Each header has octets, so the
-- walk reads no more headers than octets.
unfoldable pub outer_at : List ℕ → Result Outer Fault
outer_at octets = walk_on (length octets + 1) at_first octets

-- ---- where the walk stops

-- the progress from which the walk goes on, or None if it stops
abbrev pub goes_to : Progress → List ℕ → Result Progress Fault → Option Progress
goes_to p octets (Err f) = None
goes_to p octets (Ok next) = if nat_lt (length octets) (next.at - p.at) then None
    else (if next.depth == 0 then None else Some next)

abbrev pub goes_by : Progress → List ℕ → Result (Option Opening) Fault → Option Progress
goes_by p octets (Err f) = None
goes_by p octets (Ok None) = None
goes_by p octets (Ok (Some opening)) = goes_to p octets (behind_header p octets opening)

-- the progress after one step, or None if the walk fails, ends or needs more octets
unfoldable pub goes : Progress → List ℕ → Option Progress
goes p octets = goes_by p octets (opening_at (record { octets = octets; place = p.at }))

-- the progress at which the walk stops, and the octets left there
abbrev pub stopped_by : (Progress → List ℕ → Progress × List ℕ) → Progress → List ℕ → Option Progress → Progress
    × List ℕ
stopped_by walk p octets None = (p, octets)
stopped_by walk p octets (Some next) = walk next (drop (next.at - p.at) octets)

abbrev pub stopped_on : ℕ → Progress → List ℕ → Progress × List ℕ
stopped_on zero p octets = (p, octets)
stopped_on (suc n) p octets = stopped_by (stopped_on n) p octets (goes p octets)

-- the progress at which a walk over the octets stops, and the octets left there
unfoldable pub stopped : List ℕ → Progress × List ℕ
stopped octets = stopped_on (length octets + 1) at_first octets

-- the place at which an element of indefinite length opens at this depth, if one does, else `noted`
abbrev pub note : ℕ → ℕ → Progress → Progress → ℕ
note depth noted p next = if (p.depth + 1 == depth) && (next.depth == depth) then p.at else noted

-- the place of the last element of indefinite length opened at this depth, or `noted` if there is none
abbrev pub noted_by : (ℕ → Progress → List ℕ → ℕ) → ℕ → ℕ → Progress → List ℕ → Option Progress → ℕ
noted_by walk depth noted p octets None = noted
noted_by walk depth noted p octets (Some next) =
    walk (note depth noted p next) next (drop (next.at - p.at) octets)

abbrev pub noted_on : ℕ → ℕ → ℕ → Progress → List ℕ → ℕ
noted_on zero depth noted p octets = noted
noted_on (suc n) depth noted p octets = noted_by (noted_on n depth) depth noted p octets (goes p octets)

-- the place of the last element of indefinite length that a walk over the octets opens at this depth
unfoldable pub last_opened : ℕ → List ℕ → ℕ
last_opened depth octets = noted_on (length octets + 1) depth 0 at_first octets

-- the place of the innermost incomplete element
abbrev pub innermost_by : List ℕ → Progress × List ℕ → ℕ
innermost_by octets (p, []) = last_opened p.depth octets
innermost_by octets (p, octet ∷ more) = p.at

-- the place of the innermost incomplete element of the octets
unfoldable pub innermost_at : List ℕ → ℕ
innermost_at octets = innermost_by octets (stopped octets)

-- ---- a walk that stopped and resumes

-- the walk's result for these octets, after `skip` octets of a definite content, with these octets of an unfinished
-- header before them
abbrev pub resume : ℕ → List ℕ → Progress → List ℕ → Result Outer Fault
resume skip header p octets =
    if nat_lt (length octets) skip then Ok (Need (p.at + 2 * p.depth))
    else (if (p.depth == 0) && nat_lt 0 p.at then Ok (Whole p.at)
    else walk_on (length header + length octets + 1) p (header ++ drop skip octets))

-- the walk's result for these octets, or its earlier fault
abbrev pub resume_unless : Option Fault → ℕ → List ℕ → Progress → List ℕ → Result Outer Fault
resume_unless (Some f) skip header p octets = Err f
resume_unless None skip header p octets = resume skip header p octets
