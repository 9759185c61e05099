-- The functions of the library have no failure.
use Rattle.std.proofs.Common.{◌≡◌, ℕ, true, false, List, [], ◌∷◌, ◌++◌, Option, Some, None, refl, sym, ap, ◌∙◌, subst}
use Rattle.std.specs.Prelude.{pos}
use Rattle.sts_base.specs.declared.tables.Tables.{Tables}
use Rattle.sts_syntax.specs.Trees.{Text, present, also, done}
use Rattle.sts_scope.specs.declared.kinds.StaticType.{StaticType}
use Rattle.sts_scope.specs.declared.known.Known.{Known}
use Rattle.sts_scope.specs.declared.known.Found.TheVariants as found
use Rattle.sts_scope.specs.declared.known.This.TheVariants as this
use Rattle.sts_scope.specs.Entries.{Naming}
use Rattle.sts_scope.specs.Failures.{Failure}
use Rattle.sts_scope.specs.Kinds.{number, text}
use Rattle.sts_scope.specs.Rules as X
use Rattle.sts_scope.specs.Kinds as X1
use Rattle.sts_scope.specs.Places.{local, with, global_named}
use Rattle.type_derive.specs.Returns.{within, bound}
use Rattle.type_derive.specs.Nodes.{statements_failure, statement_failure, failure, own_bound}
use Rattle.type_derive.specs.Typing.{type_of, types_of, are_given, space_of, space, own_call, board_callee, ◌>>=◌}
use Rattle.sts_scope.specs.Failures.{◌then◌}
use Rattle.sts_prelude.specs.Library.{glyph, member_call, name, number as number_at, place, named_at, first_glyph, glyph_loop, show_leds, show_glyphs, write_line, absolute, one_of_two}
use Rattle.sts_prelude.proofs.Laws.{own, own_tokens}

module _ (more rest : List (List ℕ)) (names : Naming) (k : Known) where
  abbrev pub tables : Tables
  tables = record { names = own.names ++ more; texts = own.texts ++ rest }

  pub leds : (gives : Option StaticType) → global_named k true 5 ≡ found.Unknown → global_named k true 6 ≡ found.Unknown →
      statements_failure tables names k (within (local 2 (Some number) false ∷ []) this.Nowhere gives true) (show_leds own_tokens 10) ≡ None
  unfolding X.operate X1.same X.choose X.common X.goes X.assign X.joined X.prefix X.counted
  leds gives show basic = rw (show, failure, statement_failure, statements_failure, space_of, space, own_call, board_callee, ◌>>=◌, ◌then◌, type_of, types_of, are_given, bound, own_bound) (rw (show, failure, statement_failure, statements_failure, space_of, space, own_call, board_callee, ◌>>=◌, ◌then◌, type_of, types_of, are_given, bound, own_bound) (rw (basic, failure, statement_failure, statements_failure, space_of, space, own_call, board_callee, ◌>>=◌, ◌then◌, type_of, types_of, are_given, bound, own_bound) (rw (basic, failure, statement_failure, statements_failure, space_of, space, own_call, board_callee, ◌>>=◌, ◌then◌, type_of, types_of, are_given, bound, own_bound) (refl))))

  module _ (gives : Option StaticType) (glyph_is : global_named k true 13 ≡ found.Unknown) (show : global_named k true 5 ≡ found.Unknown) (basic : global_named k true 6 ≡ found.Unknown) where
    numbers_kind : bound tables names k (with (within (local 9 (Some number) false ∷ []) this.Nowhere gives true) 11 (Some number) false) None (present (glyph own_tokens 39 (number_at own_tokens 43 (pos 0)))) ≡ Some number
    unfolding X.operate X1.same X.choose X.common X.goes X.assign X.joined X.prefix X.counted
    numbers_kind = rw (glyph_is, failure, statement_failure, statements_failure, space_of, space, own_call, board_callee, ◌>>=◌, ◌then◌, type_of, types_of, are_given, bound, own_bound) refl

    numbers_first : statement_failure tables names k (with (within (local 9 (Some number) false ∷ []) this.Nowhere gives true) 11 (Some number) false) (first_glyph own_tokens 36) ≡ None
    unfolding X.operate X1.same X.choose X.common X.goes X.assign X.joined X.prefix X.counted
    numbers_first = rw (glyph_is, failure, statement_failure, statements_failure, space_of, space, own_call, board_callee, ◌>>=◌, ◌then◌, type_of, types_of, are_given, bound, own_bound) (rw (glyph_is, failure, statement_failure, statements_failure, space_of, space, own_call, board_callee, ◌>>=◌, ◌then◌, type_of, types_of, are_given, bound, own_bound) (refl))

    numbers_loop : statement_failure tables names k (with (with (within (local 9 (Some number) false ∷ []) this.Nowhere gives true) 11 (Some number) false) 12 (Some number) false) (glyph_loop own_tokens 45) ≡ None
    unfolding X.operate X1.same X.choose X.common X.goes X.assign X.joined X.prefix X.counted
    numbers_loop = rw (glyph_is, failure, statement_failure, statements_failure, space_of, space, own_call, board_callee, ◌>>=◌, ◌then◌, type_of, types_of, are_given, bound, own_bound) (rw (glyph_is, failure, statement_failure, statements_failure, space_of, space, own_call, board_callee, ◌>>=◌, ◌then◌, type_of, types_of, are_given, bound, own_bound) (rw (show, failure, statement_failure, statements_failure, space_of, space, own_call, board_callee, ◌>>=◌, ◌then◌, type_of, types_of, are_given, bound, own_bound) (rw (show, failure, statement_failure, statements_failure, space_of, space, own_call, board_callee, ◌>>=◌, ◌then◌, type_of, types_of, are_given, bound, own_bound) (rw (basic, failure, statement_failure, statements_failure, space_of, space, own_call, board_callee, ◌>>=◌, ◌then◌, type_of, types_of, are_given, bound, own_bound) (rw (basic, failure, statement_failure, statements_failure, space_of, space, own_call, board_callee, ◌>>=◌, ◌then◌, type_of, types_of, are_given, bound, own_bound) (refl))))))

    pub numbers : statements_failure tables names k (within (local 9 (Some number) false ∷ []) this.Nowhere gives true) (show_glyphs own_tokens 32) ≡ None
    numbers =
        ap (λ (x : Option Failure). x then statements_failure tables names k (with (with (within (local 9 (Some number) false ∷ []) this.Nowhere gives true) 11 (Some number) false) 12 (bound tables names k (with (within (local 9 (Some number) false ∷ []) this.Nowhere gives true) 11 (Some number) false) None (present (glyph own_tokens 39 (number_at own_tokens 43 (pos 0))))) false) (also (glyph_loop own_tokens 45) done)) numbers_first
        ∙ subst (λ (b : Option StaticType). statements_failure tables names k (with (with (within (local 9 (Some number) false ∷ []) this.Nowhere gives true) 11 (Some number) false) 12 b false) (also (glyph_loop own_tokens 45) done) ≡ None) (sym numbers_kind)
        (ap (λ (x : Option Failure). x then None) numbers_loop)

  module _ (gives : Option StaticType) (glyph_is : global_named k true 18 ≡ found.Unknown) (show : global_named k true 5 ≡ found.Unknown) (basic : global_named k true 6 ≡ found.Unknown) where
    strings_kind : bound tables names k (with (within (local 16 (Some text) false ∷ []) this.Nowhere gives true) 11 (Some number) false) None (present (glyph own_tokens 95 (number_at own_tokens 99 (pos 0)))) ≡ Some number
    unfolding X.operate X1.same X.choose X.common X.goes X.assign X.joined X.prefix X.counted
    strings_kind = rw (glyph_is, failure, statement_failure, statements_failure, space_of, space, own_call, board_callee, ◌>>=◌, ◌then◌, type_of, types_of, are_given, bound, own_bound) refl

    strings_first : statement_failure tables names k (with (within (local 16 (Some text) false ∷ []) this.Nowhere gives true) 11 (Some number) false) (first_glyph own_tokens 92) ≡ None
    unfolding X.operate X1.same X.choose X.common X.goes X.assign X.joined X.prefix X.counted
    strings_first = rw (glyph_is, failure, statement_failure, statements_failure, space_of, space, own_call, board_callee, ◌>>=◌, ◌then◌, type_of, types_of, are_given, bound, own_bound) (rw (glyph_is, failure, statement_failure, statements_failure, space_of, space, own_call, board_callee, ◌>>=◌, ◌then◌, type_of, types_of, are_given, bound, own_bound) (refl))

    strings_loop : statement_failure tables names k (with (with (within (local 16 (Some text) false ∷ []) this.Nowhere gives true) 11 (Some number) false) 12 (Some number) false) (glyph_loop own_tokens 101) ≡ None
    unfolding X.operate X1.same X.choose X.common X.goes X.assign X.joined X.prefix X.counted
    strings_loop = rw (glyph_is, failure, statement_failure, statements_failure, space_of, space, own_call, board_callee, ◌>>=◌, ◌then◌, type_of, types_of, are_given, bound, own_bound) (rw (glyph_is, failure, statement_failure, statements_failure, space_of, space, own_call, board_callee, ◌>>=◌, ◌then◌, type_of, types_of, are_given, bound, own_bound) (rw (show, failure, statement_failure, statements_failure, space_of, space, own_call, board_callee, ◌>>=◌, ◌then◌, type_of, types_of, are_given, bound, own_bound) (rw (show, failure, statement_failure, statements_failure, space_of, space, own_call, board_callee, ◌>>=◌, ◌then◌, type_of, types_of, are_given, bound, own_bound) (rw (basic, failure, statement_failure, statements_failure, space_of, space, own_call, board_callee, ◌>>=◌, ◌then◌, type_of, types_of, are_given, bound, own_bound) (rw (basic, failure, statement_failure, statements_failure, space_of, space, own_call, board_callee, ◌>>=◌, ◌then◌, type_of, types_of, are_given, bound, own_bound) (refl))))))

    pub strings : statements_failure tables names k (within (local 16 (Some text) false ∷ []) this.Nowhere gives true) (show_glyphs own_tokens 88) ≡ None
    strings =
        ap (λ (x : Option Failure). x then statements_failure tables names k (with (with (within (local 16 (Some text) false ∷ []) this.Nowhere gives true) 11 (Some number) false) 12 (bound tables names k (with (within (local 16 (Some text) false ∷ []) this.Nowhere gives true) 11 (Some number) false) None (present (glyph own_tokens 95 (number_at own_tokens 99 (pos 0))))) false) (also (glyph_loop own_tokens 101) done)) strings_first
        ∙ subst (λ (b : Option StaticType). statements_failure tables names k (with (with (within (local 16 (Some text) false ∷ []) this.Nowhere gives true) 11 (Some number) false) 12 b false) (also (glyph_loop own_tokens 101) done) ≡ None) (sym strings_kind)
        (ap (λ (x : Option Failure). x then None) strings_loop)

  -- a line is two texts
  module _ (gives : Option StaticType) (serial : global_named k true 20 ≡ found.Unknown) where
    first_text : statement_failure tables names k (within (local 16 (Some text) false ∷ []) this.Nowhere gives true) (member_call own_tokens 144 (name own_tokens 148)) ≡ None
    unfolding X.operate X1.same X.choose X.common X.goes X.assign X.joined X.prefix X.counted
    first_text = rw (serial, failure, statement_failure, statements_failure, space_of, space, own_call, board_callee, ◌>>=◌, ◌then◌, type_of, types_of, are_given, bound, own_bound) (rw (serial, failure, statement_failure, statements_failure, space_of, space, own_call, board_callee, ◌>>=◌, ◌then◌, type_of, types_of, are_given, bound, own_bound) refl)

    second_text : statement_failure tables names k (within (local 16 (Some text) false ∷ []) this.Nowhere gives true) (member_call own_tokens 151 (Text (place own_tokens 155) (named_at own_tokens 155))) ≡ None
    unfolding X.operate X1.same X.choose X.common X.goes X.assign X.joined X.prefix X.counted
    second_text = rw (serial, failure, statement_failure, statements_failure, space_of, space, own_call, board_callee, ◌>>=◌, ◌then◌, type_of, types_of, are_given, bound, own_bound) (rw (serial, failure, statement_failure, statements_failure, space_of, space, own_call, board_callee, ◌>>=◌, ◌then◌, type_of, types_of, are_given, bound, own_bound) refl)

    pub lines : statements_failure tables names k (within (local 16 (Some text) false ∷ []) this.Nowhere gives true) (write_line own_tokens 144) ≡ None
    lines =
        ap (λ (x : Option Failure). x then statements_failure tables names k (within (local 16 (Some text) false ∷ []) this.Nowhere gives true) (also (member_call own_tokens 151 (Text (place own_tokens 155) (named_at own_tokens 155))) done)) first_text
        ∙ ap (λ (x : Option Failure). x then None) second_text

  pub absolutes :
      statements_failure tables names k (within (local 9 (Some number) false ∷ []) this.Nowhere (Some number) true) (absolute own_tokens 168) ≡ None
  unfolding X.operate X1.same X.choose X.common X.goes X.assign X.joined X.prefix X.counted
  absolutes = refl

  pub least :
      statements_failure tables names k (within (local 25 (Some number) false ∷ local 26 (Some number) false ∷ []) this.Nowhere (Some number) true) (one_of_two own_tokens 193 6) ≡ None
  unfolding X.operate X1.same X.choose X.common X.goes X.assign X.joined X.prefix X.counted
  least = refl

  pub greatest :
      statements_failure tables names k (within (local 25 (Some number) false ∷ local 26 (Some number) false ∷ []) this.Nowhere (Some number) true) (one_of_two own_tokens 216 7) ≡ None
  unfolding X.operate X1.same X.choose X.common X.goes X.assign X.joined X.prefix X.counted
  greatest = refl
