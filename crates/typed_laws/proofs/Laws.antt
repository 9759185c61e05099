-- The laws that proofs of other crates cite.

pub use Rattle.typed_laws.proofs.FormedUnits.{program_formed, program_texts_below}
pub use Rattle.typed_laws.proofs.NamedPrograms.{typed_names}
pub use Rattle.typed_laws.proofs.DeclaredTypes.{type_known, give_none, return_none}
pub use Rattle.typed_laws.proofs.Items.{item_sourced}
pub use Rattle.typed_laws.proofs.Names.{bind_some}
pub use Rattle.typed_laws.proofs.Searching.{some_or_none}
pub use Rattle.typed_laws.proofs.Suffixes.{Suffix, suffix_step, suffix_one, suffix_at, suffix_head}
pub use Rattle.typed_laws.proofs.TextBehind.{no_classes, sources_joined, sources_length, solved}
pub use Rattle.typed_laws.proofs.Typed.{first, last, unless_true}
