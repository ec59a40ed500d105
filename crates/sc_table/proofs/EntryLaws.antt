-- What is read from a list is its table's entry, after each change of the list.
pub use Rattle.sc_field.proofs.EntryLaws.{entry-read, entry-set_same, entry-set_other, entry-take, entry-drop, entry-append_left, entry-append_last, entry-append_right, entry-below, entry-embedded, entry-replicate, entry-filled}
