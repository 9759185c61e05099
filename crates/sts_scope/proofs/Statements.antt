-- What a declaration in the main program declares.
use Rattle.std.proofs.Common.{◌≡◌, suc, List, [], ◌∷◌, length, refl, ap, ◌∙◌}
use Rattle.std.specs.Prelude.{Bool}
use Rattle.sts_syntax.specs.declared.trees.Stmt.{Stmt}
use Rattle.sts_syntax.specs.declared.trees.Binding.{Binding}
use Rattle.sts_syntax.specs.declared.trees.Form.TheVariants as f
use Rattle.sts_syntax.specs.Trees.{Let}
use Rattle.sts_syntax.specs.Views.{statement, form_statement, declarations}
use Rattle.sts_syntax.proofs.Laws.{let_statement}
use Rattle.sts_scope.specs.Entries.{Naming, main_entries, main_kinds, global_entries, global_kinds}

pub let_is : (s : Stmt) (fixed : Bool) (each : List Binding) → s.form ≡ f.Let fixed each → statement s ≡ Let s.at fixed (declarations each)
let_is s fixed each is = ap (form_statement s.at) is ∙ let_statement s.at fixed each

pub let_entries : (s : Stmt) (fixed : Bool) (each : List Binding) → s.form ≡ f.Let fixed each → main_entries (statement s) ≡ global_entries fixed (declarations each)
let_entries s fixed each is = ap main_entries (let_is s fixed each is)

pub let_kinds : (names : Naming) (s : Stmt) (fixed : Bool) (each : List Binding) → s.form ≡ f.Let fixed each → main_kinds names (statement s) ≡ global_kinds names (declarations each)
let_kinds names s fixed each is = ap (main_kinds names) (let_is s fixed each is)

global_count : (fixed : Bool) (each : List Binding) → length (global_entries fixed (declarations each)) ≡ length each
global_count fixed [] = refl
global_count fixed (b ∷ rest) = ap suc (global_count fixed rest)

pub let_count : (s : Stmt) (fixed : Bool) (each : List Binding) → s.form ≡ f.Let fixed each → length (main_entries (statement s)) ≡ length each
let_count s fixed each is = ap length (let_entries s fixed each is) ∙ global_count fixed each
