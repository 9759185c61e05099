-- What the library's typed functions weigh.
use Rattle.std.proofs.Common.{◌≡◌, ◌≤◌, ℕ, ◌+◌, suc, true, false, List, [], ◌∷◌, ◌++◌, take, Option, Some, None, refl, sym, ap, subst, arith}
use Rattle.std.specs.Prelude.{pos}
use Rattle.sts_base.specs.declared.tables.Tables.{Tables}
use Rattle.sts_syntax.specs.Annotations as a
use Rattle.sts_syntax.specs.BoardTable.{library_size}
use Rattle.sts_syntax.specs.Programs.{Program}
use Rattle.sts_syntax.specs.Trees.{Statement, Statements, also, done, present}
use Rattle.sts_syntax.specs.TypedTrees.{TypedRoutine, TypedStatements}
use Rattle.sts_syntax.specs.Weights.{statement_weight, statements_weight, weight, routines_weight}
use Rattle.sts_syntax.specs.declared.typed.Spot.{Spot}
use Rattle.sts_scope.specs.declared.kinds.StaticType.{StaticType}
use Rattle.sts_scope.specs.declared.known.Known.{Known}
use Rattle.sts_scope.specs.declared.known.This.TheVariants as this
use Rattle.sts_scope.specs.Entries.{Naming}
use Rattle.sts_scope.specs.Kinds.{number, text as text_kind}
use Rattle.sts_scope.specs.Places.{local, with, inner}
use Rattle.sts_scope.specs.Rules.{kind_at}
use Rattle.type_derive.specs.Returns.{within, bound}
use Rattle.type_derive.specs.Typing.{space_of, space, own_call, board_callee, ◌>>=◌}
use Rattle.type_derive.specs.Making.{Made}
use Rattle.type_derive.specs.inner.Filling.{◌>=>◌}
use Rattle.type_derive.specs.Built.{Site}
use Rattle.type_derive.specs.inner.Filled.{behind_statement, made_tree, made_asked, made_statement, made_statements, made_locals, made_local, made_first, site}
use Rattle.sts_scope.specs.Numbers.{Numbering, numbering}
use Rattle.typed_laws.specs.inner.FilledPrograms.{items_made, library_made}
use Rattle.sts_scope.specs.Scopes.{all_names, library_classes}
use Rattle.sts_scope.specs.Handlers.{all_routines}
use Rattle.type_derive.specs.Derived.{AreDerived, known}
use Rattle.typed_laws.specs.Accepted.{main_routine}
use Rattle.typed_laws.specs.inner.FilledTexts.{filled_program}
use Rattle.sts_prelude.specs.Library as l
use Rattle.sts_prelude.proofs.Laws.{own_tokens}
use Rattle.typed_laws.proofs.Prelude.{L, names, k, T, show, basic, number_glyph, text_glyph, serial}
use Rattle.typed_laws.proofs.LibraryRows.{N, built, made_is}

-- seven functions before others
sevens : (a b c d e f g : TypedRoutine) (all others last : List TypedRoutine) → all ≡ a ∷ b ∷ c ∷ d ∷ e ∷ f ∷ g ∷ [] → weight a ≡ 10 → weight b ≡ 35 → weight c ≡ 35 → weight d ≡ 11
    → weight e ≡ 13 → weight f ≡ 11 → weight g ≡ 11 → routines_weight (take library_size ((all ++ others) ++ last)) ≤ 600
sevens a b c d e f g all others last is h i j m n o p =
    subst (λ (xs : List TypedRoutine). routines_weight (take library_size ((xs ++ others) ++ last)) ≤ 600) (sym is) (omega (arith, h, i, j, m, n, o, p))

typed_weighs : (tables : Tables) (library text : Program) (kinds : List (Option StaticType)) (a b c d e f g : TypedRoutine)
    → library_made tables (all_names library text) (known library text kinds) (numbering (library ++ text)) 0 0 library ≡ a ∷ b ∷ c ∷ d ∷ e ∷ f ∷ g ∷ []
    → weight a ≡ 10 → weight b ≡ 35 → weight c ≡ 35 → weight d ≡ 11 → weight e ≡ 13 → weight f ≡ 11 → weight g ≡ 11
    → routines_weight (take library_size (filled_program tables library text kinds).functions) ≤ 600
typed_weighs tables library text kinds a b c d e f g is h i j m n o p =
    let names : Naming = all_names library text in
    let k : Known = known library text kinds in
    let numbers : Numbering = numbering (library ++ text) in
    let behind : Made TypedStatements = items_made tables names k numbers (library_classes library text) k.library 0 (all_routines library) text in
    sevens a b c d e f g (library_made tables names k numbers 0 0 library) behind.routines (main_routine behind ∷ []) is h i j m n o p

module _ (more rest : List (List ℕ)) (text : Program) (kinds : List (Option StaticType)) where
  abbrev weight_at : Site → Statement → ℕ → ℕ → ℕ
  weight_at s a m n = statement_weight (made_statement (T more rest text kinds) (names more rest text kinds) (k more rest text kinds) (N more rest text kinds) s a m n).it

  abbrev weight_within : Site → Statements → ℕ → ℕ → ℕ
  weight_within s all m n = statements_weight (made_statements (T more rest text kinds) (names more rest text kinds) (k more rest text kinds) (N more rest text kinds) s all m n).it

  two : (a b v w : ℕ) → a ≡ v → b ≡ w → a + b ≡ v + w
  two a b v w h j = omega arith

  also_weighs : (s : Site) (a : Statement) (all : Statements) (m n v w : ℕ) → weight_at s a m n ≡ v
      → ((m' n' : ℕ) → weight_within (behind_statement (T more rest text kinds) (names more rest text kinds) (k more rest text kinds) (N more rest text kinds) m s a) all m' n' ≡ w)
      → weight_within s (also a all) m n ≡ v + w
  also_weighs s a all m n v w h g = two (weight_at s a m n) _ v w h (g _ _)

  leds : (n : ℕ) (gives : Option StaticType) → weight (built more rest text kinds n gives (l.parameter own_tokens 3 a.Number ∷ []) (l.show_leds own_tokens 10)).it ≡ 10
  leds n gives = rw (show more rest text kinds, made_tree, made_asked, made_statement, made_statements, made_locals, made_local, made_first, ◌>=>◌, board_callee, own_call, ◌>>=◌, space_of, space) (rw (basic more rest text kinds, made_tree, made_asked, made_statement, made_statements, made_locals, made_local, made_first, ◌>=>◌, board_callee, own_call, ◌>>=◌, space_of, space) refl)

  module _ (gives x : Option StaticType) where
    numbers_show : (z : List Spot) (m n : ℕ) → weight_at (record { place = inner (inner (with (with (within (local 9 (Some number) false ∷ []) this.Nowhere gives true) 11 (Some number) false) 12 x false)); spots = z }) (l.show own_tokens 52) m n ≡ 3
    numbers_show z m n = rw (show more rest text kinds, made_tree, made_asked, made_statement, made_statements, made_locals, made_local, made_first, ◌>=>◌, board_callee, own_call, ◌>>=◌, space_of, space) refl

    numbers_pause : (z : List Spot) (m n : ℕ) → weight_at (record { place = inner (inner (with (with (within (local 9 (Some number) false ∷ []) this.Nowhere gives true) 11 (Some number) false) 12 x false)); spots = z }) (l.pause own_tokens 57) m n ≡ 3
    numbers_pause z m n = rw (basic more rest text kinds, made_tree, made_asked, made_statement, made_statements, made_locals, made_local, made_first, ◌>=>◌, board_callee, own_call, ◌>>=◌, space_of, space) refl

    numbers_count : (z : List Spot) (m n : ℕ) → weight_at (record { place = inner (inner (with (with (within (local 9 (Some number) false ∷ []) this.Nowhere gives true) 11 (Some number) false) 12 x false)); spots = z }) (l.count own_tokens 64) m n ≡ 6
    numbers_count z m n = refl

    numbers_next : (z : List Spot) (m n : ℕ) → weight_at (record { place = inner (inner (with (with (within (local 9 (Some number) false ∷ []) this.Nowhere gives true) 11 (Some number) false) 12 x false)); spots = z }) (l.next_glyph own_tokens 68) m n ≡ 6
    numbers_next z m n = rw (number_glyph more rest text kinds, made_tree, made_asked, made_statement, made_statements, made_locals, made_local, made_first, ◌>=>◌, board_callee, own_call, ◌>>=◌, space_of, space) refl

    numbers_turn : (z : List Spot) (m n : ℕ) → weight_within (record { place = inner (inner (with (with (within (local 9 (Some number) false ∷ []) this.Nowhere gives true) 11 (Some number) false) 12 x false)); spots = z }) (l.turn own_tokens 52) m n ≡ 18
    numbers_turn z m n =
        also_weighs (record { place = inner (inner (with (with (within (local 9 (Some number) false ∷ []) this.Nowhere gives true) 11 (Some number) false) 12 x false)); spots = z }) (l.show own_tokens 52) (also (l.pause own_tokens 57) (also (l.count own_tokens 64) (also (l.next_glyph own_tokens 68) done))) m n 3 15 (numbers_show z m n) (λ m n.
        also_weighs (record { place = inner (inner (with (with (within (local 9 (Some number) false ∷ []) this.Nowhere gives true) 11 (Some number) false) 12 x false)); spots = (z ++ []) }) (l.pause own_tokens 57) (also (l.count own_tokens 64) (also (l.next_glyph own_tokens 68) done)) m n 3 12 (numbers_pause (z ++ []) m n) (λ m n.
        also_weighs (record { place = inner (inner (with (with (within (local 9 (Some number) false ∷ []) this.Nowhere gives true) 11 (Some number) false) 12 x false)); spots = ((z ++ []) ++ []) }) (l.count own_tokens 64) (also (l.next_glyph own_tokens 68) done) m n 6 6 (numbers_count ((z ++ []) ++ []) m n) (λ m n.
        also_weighs (record { place = inner (inner (with (with (within (local 9 (Some number) false ∷ []) this.Nowhere gives true) 11 (Some number) false) 12 x false)); spots = (((z ++ []) ++ []) ++ []) }) (l.next_glyph own_tokens 68) done m n 6 0 (numbers_next (((z ++ []) ++ []) ++ []) m n) (λ m n. refl))))

    numbers_loop : (z : List Spot) (m n : ℕ) → weight_at (record { place = with (with (within (local 9 (Some number) false ∷ []) this.Nowhere gives true) 11 (Some number) false) 12 x false; spots = z }) (l.glyph_loop own_tokens 45) m n ≡ 23
    numbers_loop z m n = ap (λ (w : ℕ). 4 + (1 + w)) (numbers_turn z _ _)

    numbers_first : (z : List Spot) (m n : ℕ) → weight_at (record { place = (with (within (local 9 (Some number) false ∷ []) this.Nowhere gives true) 11 (Some number) false); spots = z }) (l.first_glyph own_tokens 36) m n ≡ 5
    numbers_first z m n = rw (number_glyph more rest text kinds, made_tree, made_asked, made_statement, made_statements, made_locals, made_local, made_first, ◌>=>◌, board_callee, own_call, ◌>>=◌, space_of, space) refl

  numbers : (n : ℕ) (gives : Option StaticType) → weight (built more rest text kinds n gives (l.parameter own_tokens 25 a.Number ∷ []) (l.show_glyphs own_tokens 32)).it ≡ 35
  numbers n gives =
      let s0 : Site = site (T more rest text kinds) (names more rest text kinds) (k more rest text kinds) (N more rest text kinds) this.Nowhere gives true 0 (l.parameter own_tokens 25 a.Number ∷ []) in
      let s1 : Site = behind_statement (T more rest text kinds) (names more rest text kinds) (k more rest text kinds) (N more rest text kinds) 0 s0 (l.declare own_tokens 32 (l.number own_tokens 35 (pos 0))) in
      let s2 : ℕ → Site = λ m. behind_statement (T more rest text kinds) (names more rest text kinds) (k more rest text kinds) (N more rest text kinds) m s1 (l.first_glyph own_tokens 36) in
      let x : Option StaticType = bound (T more rest text kinds) (names more rest text kinds) (k more rest text kinds) s1.place None (present (l.glyph own_tokens 39 (l.number own_tokens 43 (pos 0)))) in
      ap (λ (w : ℕ). 4 + w)
      (also_weighs s0 (l.declare own_tokens 32 (l.number own_tokens 35 (pos 0))) (also (l.first_glyph own_tokens 36) (also (l.glyph_loop own_tokens 45) done)) 0 (suc n) 3 28 refl (λ m m'.
      also_weighs s1 (l.first_glyph own_tokens 36) (also (l.glyph_loop own_tokens 45) done) m m' 5 23 (numbers_first gives gives s1.spots m m') (λ n n'.
      also_weighs (s2 m) (l.glyph_loop own_tokens 45) done n n' 23 0 (numbers_loop gives x (s2 m).spots n n') (λ p p'. refl))))

  module _ (gives x : Option StaticType) where
    strings_show : (z : List Spot) (m n : ℕ) → weight_at (record { place = inner (inner (with (with (within (local 16 (Some text_kind) false ∷ []) this.Nowhere gives true) 11 (Some number) false) 12 x false)); spots = z }) (l.show own_tokens 108) m n ≡ 3
    strings_show z m n = rw (show more rest text kinds, made_tree, made_asked, made_statement, made_statements, made_locals, made_local, made_first, ◌>=>◌, board_callee, own_call, ◌>>=◌, space_of, space) refl

    strings_pause : (z : List Spot) (m n : ℕ) → weight_at (record { place = inner (inner (with (with (within (local 16 (Some text_kind) false ∷ []) this.Nowhere gives true) 11 (Some number) false) 12 x false)); spots = z }) (l.pause own_tokens 113) m n ≡ 3
    strings_pause z m n = rw (basic more rest text kinds, made_tree, made_asked, made_statement, made_statements, made_locals, made_local, made_first, ◌>=>◌, board_callee, own_call, ◌>>=◌, space_of, space) refl

    strings_count : (z : List Spot) (m n : ℕ) → weight_at (record { place = inner (inner (with (with (within (local 16 (Some text_kind) false ∷ []) this.Nowhere gives true) 11 (Some number) false) 12 x false)); spots = z }) (l.count own_tokens 120) m n ≡ 6
    strings_count z m n = refl

    strings_next : (z : List Spot) (m n : ℕ) → weight_at (record { place = inner (inner (with (with (within (local 16 (Some text_kind) false ∷ []) this.Nowhere gives true) 11 (Some number) false) 12 x false)); spots = z }) (l.next_glyph own_tokens 124) m n ≡ 6
    strings_next z m n = rw (text_glyph more rest text kinds, made_tree, made_asked, made_statement, made_statements, made_locals, made_local, made_first, ◌>=>◌, board_callee, own_call, ◌>>=◌, space_of, space) refl

    strings_turn : (z : List Spot) (m n : ℕ) → weight_within (record { place = inner (inner (with (with (within (local 16 (Some text_kind) false ∷ []) this.Nowhere gives true) 11 (Some number) false) 12 x false)); spots = z }) (l.turn own_tokens 108) m n ≡ 18
    strings_turn z m n =
        also_weighs (record { place = inner (inner (with (with (within (local 16 (Some text_kind) false ∷ []) this.Nowhere gives true) 11 (Some number) false) 12 x false)); spots = z }) (l.show own_tokens 108) (also (l.pause own_tokens 113) (also (l.count own_tokens 120) (also (l.next_glyph own_tokens 124) done))) m n 3 15 (strings_show z m n) (λ m n.
        also_weighs (record { place = inner (inner (with (with (within (local 16 (Some text_kind) false ∷ []) this.Nowhere gives true) 11 (Some number) false) 12 x false)); spots = (z ++ []) }) (l.pause own_tokens 113) (also (l.count own_tokens 120) (also (l.next_glyph own_tokens 124) done)) m n 3 12 (strings_pause (z ++ []) m n) (λ m n.
        also_weighs (record { place = inner (inner (with (with (within (local 16 (Some text_kind) false ∷ []) this.Nowhere gives true) 11 (Some number) false) 12 x false)); spots = ((z ++ []) ++ []) }) (l.count own_tokens 120) (also (l.next_glyph own_tokens 124) done) m n 6 6 (strings_count ((z ++ []) ++ []) m n) (λ m n.
        also_weighs (record { place = inner (inner (with (with (within (local 16 (Some text_kind) false ∷ []) this.Nowhere gives true) 11 (Some number) false) 12 x false)); spots = (((z ++ []) ++ []) ++ []) }) (l.next_glyph own_tokens 124) done m n 6 0 (strings_next (((z ++ []) ++ []) ++ []) m n) (λ m n. refl))))

    strings_loop : (z : List Spot) (m n : ℕ) → weight_at (record { place = with (with (within (local 16 (Some text_kind) false ∷ []) this.Nowhere gives true) 11 (Some number) false) 12 x false; spots = z }) (l.glyph_loop own_tokens 101) m n ≡ 23
    strings_loop z m n = ap (λ (w : ℕ). 4 + (1 + w)) (strings_turn z _ _)

    strings_first : (z : List Spot) (m n : ℕ) → weight_at (record { place = (with (within (local 16 (Some text_kind) false ∷ []) this.Nowhere gives true) 11 (Some number) false); spots = z }) (l.first_glyph own_tokens 92) m n ≡ 5
    strings_first z m n = rw (text_glyph more rest text kinds, made_tree, made_asked, made_statement, made_statements, made_locals, made_local, made_first, ◌>=>◌, board_callee, own_call, ◌>>=◌, space_of, space) refl

  strings : (n : ℕ) (gives : Option StaticType) → weight (built more rest text kinds n gives (l.parameter own_tokens 81 a.Text ∷ []) (l.show_glyphs own_tokens 88)).it ≡ 35
  strings n gives =
      let s0 : Site = site (T more rest text kinds) (names more rest text kinds) (k more rest text kinds) (N more rest text kinds) this.Nowhere gives true 0 (l.parameter own_tokens 81 a.Text ∷ []) in
      let s1 : Site = behind_statement (T more rest text kinds) (names more rest text kinds) (k more rest text kinds) (N more rest text kinds) 0 s0 (l.declare own_tokens 88 (l.number own_tokens 91 (pos 0))) in
      let s2 : ℕ → Site = λ m. behind_statement (T more rest text kinds) (names more rest text kinds) (k more rest text kinds) (N more rest text kinds) m s1 (l.first_glyph own_tokens 92) in
      let x : Option StaticType = bound (T more rest text kinds) (names more rest text kinds) (k more rest text kinds) s1.place None (present (l.glyph own_tokens 95 (l.number own_tokens 99 (pos 0)))) in
      ap (λ (w : ℕ). 4 + w)
      (also_weighs s0 (l.declare own_tokens 88 (l.number own_tokens 91 (pos 0))) (also (l.first_glyph own_tokens 92) (also (l.glyph_loop own_tokens 101) done)) 0 (suc n) 3 28 refl (λ m m'.
      also_weighs s1 (l.first_glyph own_tokens 92) (also (l.glyph_loop own_tokens 101) done) m m' 5 23 (strings_first gives gives s1.spots m m') (λ n n'.
      also_weighs (s2 m) (l.glyph_loop own_tokens 101) done n n' 23 0 (strings_loop gives x (s2 m).spots n n') (λ p p'. refl))))

  lines : (n : ℕ) (gives : Option StaticType) → weight (built more rest text kinds n gives (l.parameter own_tokens 137 a.Text ∷ []) (l.write_line own_tokens 144)).it ≡ 11
  lines n gives = rw (serial more rest text kinds, made_tree, made_asked, made_statement, made_statements, made_locals, made_local, made_first, ◌>=>◌, board_callee, own_call, ◌>>=◌, space_of, space) refl

  absolutes : (n : ℕ) (gives : Option StaticType) → weight (built more rest text kinds n gives (l.parameter own_tokens 161 a.Number ∷ []) (l.absolute own_tokens 168)).it ≡ 13
  absolutes n gives = refl

  least : (n : ℕ) (gives : Option StaticType) → weight (built more rest text kinds n gives (l.parameter own_tokens 182 a.Number ∷ l.parameter own_tokens 186 a.Number ∷ []) (l.one_of_two own_tokens 193 6)).it ≡ 11
  least n gives = refl

  greatest : (n : ℕ) (gives : Option StaticType) → weight (built more rest text kinds n gives (l.parameter own_tokens 205 a.Number ∷ l.parameter own_tokens 209 a.Number ∷ []) (l.one_of_two own_tokens 216 7)).it ≡ 11
  greatest n gives = refl

  pub light : AreDerived (T more rest text kinds) L text kinds → routines_weight (take library_size (filled_program (T more rest text kinds) L text kinds).functions) ≤ 600
  light derived =
      typed_weighs (T more rest text kinds) L text kinds _ _ _ _ _ _ _ (made_is more rest text kinds derived)
      (leds 0 (kind_at (k more rest text kinds) 0)) (numbers 1 (kind_at (k more rest text kinds) 1)) (strings 2 (kind_at (k more rest text kinds) 2)) (lines 3 (kind_at (k more rest text kinds) 3))
      (absolutes 4 (kind_at (k more rest text kinds) 4)) (least 5 (kind_at (k more rest text kinds) 5)) (greatest 6 (kind_at (k more rest text kinds) 6))
