-- The half that is read from what is kept is the half of the definitions.
pub mod OpenHalvesLaws
pub mod HalfLookupLaws
pub mod WhichHalf
