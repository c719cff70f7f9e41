-- Lemmas on sorted lists of entries, from tcap_lists, for the crates that use this one.
pub use Rattle.tcap_lists.proofs.MapLaws.{behind_first, below_all, below_first, found_first, found_inserted, found_later, found_new, found_other, insert_twice, keys_eq, kept_at, rises_removed}
