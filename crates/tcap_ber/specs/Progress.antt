-- How far can a walk get, and how long can a header be?
use Rattle.std.specs.Prelude.{◌≡◌, ℕ, ◌+◌, ◌<◌, ◌≤◌, List, None, Ok}
use Rattle.tcap_ber.specs.declared.header.Opening.{Opening}
use Rattle.tcap_ber.specs.declared.header.Opening.TheVariants.{Definite, Indefinite}
use Rattle.tcap_ber.specs.declared.progress.Progress.{Progress}
use Rattle.tcap_ber.specs.Element.{content_limit, depth_limit, header_limit, opening_limit}
use Rattle.tcap_ber.specs.HeaderReading.{opening_at}

-- the header's length in octets
abbrev pub header_octets : Opening → ℕ
header_octets (Definite h) = h.len
header_octets (Indefinite tag) = tag + 1

-- the header has at most `count` octets, and its tag, length and content are within their limits
abbrev pub IsHeaderWithin : ℕ → Opening → Type 0
IsHeaderWithin count (Definite h) = (h.tag_len < h.len) × (h.len ≤ count) × (h.len ≤ header_limit)
    × (h.len + h.content_len ≤ content_limit + header_limit)
IsHeaderWithin count (Indefinite tag) = (0 < tag) × (tag ≤ 5) × (tag + 1 ≤ count)

-- Progress within the limits: if elements are open, it is within the limit of the outermost one's content.
abbrev pub IsPlaced : Progress → Type 0
IsPlaced p =
    (p.depth ≤ depth_limit) × (p.limit ≤ content_limit + opening_limit)
    × ((0 < p.depth → (0 < p.at) × (p.at ≤ p.limit)) × (p.at ≤ content_limit + opening_limit + header_limit))

-- a header has begun but is incomplete
abbrev pub IsUnfinishedHeader : Progress → List ℕ → Type 0
IsUnfinishedHeader p octets = opening_at (record { octets = octets; place = p.at }) ≡ Ok None
