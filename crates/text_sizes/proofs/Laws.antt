-- The lemmas that proofs of other crates cite.
-- a text has few tokens; a program has fewer functions, numbers of functions, parameters and locals, and declarations than tokens
pub use Rattle.text_sizes.proofs.Tokens.{few_tokens, most_tokens}
pub use Rattle.text_sizes.proofs.Functions.{few_numbered}
pub use Rattle.text_sizes.proofs.Declarations.{few_declarations}
-- each function takes a number
pub use Rattle.text_sizes.proofs.Routines.{member_routines_numbered, item_routines_numbered, routines_numbered, few_functions}
