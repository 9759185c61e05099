-- The rows of the board's table that are functions of the library: each takes and gives the same.
use Rattle.std.proofs.Common.{◌≡◌, ℕ, suc, true, false, List, [], ◌∷◌, ◌++◌, Option, Some, None, refl, ap, subst, arith}
use Rattle.std.specs.Prelude.{pos}
use Rattle.sts_syntax.specs.Annotations as a
use Rattle.sts_syntax.specs.BoardTable as board
use Rattle.sts_syntax.specs.BoardTable.{BoardAction, row_of}
use Rattle.sts_syntax.specs.Types as t
use Rattle.sts_syntax.specs.declared.board_calls.BoardCall.{BoardCall}
use Rattle.sts_syntax.specs.declared.board_calls.BoardCall.TheVariants.{Pause, Forever, ShowLeds, ShowNumber, ShowString, ClearScreen, Unplot, Plot, Toggle, OnButtonPressed, ButtonIsPressed, RunningTime, InBackground, OnEvent, OnEventFlags, RaiseEvent, RaiseNow, WaitForEvent, EventValue, Panic, WriteNumber, WriteString, WriteLine, DigitalWritePin, SendNumber, Abs, Min, Max, Show, NumberGlyph, TextGlyph}
use Rattle.sts_syntax.specs.Programs.{Program}
use Rattle.sts_syntax.specs.Trees.{Parameter, Statement, Statements, also, done, present}
use Rattle.sts_syntax.specs.TypedTrees.{TypedRoutine}
use Rattle.sts_syntax.specs.TypeRules.{entry}
use Rattle.sts_scope.specs.declared.kinds.StaticType.{StaticType}
use Rattle.sts_scope.specs.declared.known.This.TheVariants as this
use Rattle.sts_scope.specs.Kinds.{number, text as text_kind, nothing, value_types}
use Rattle.sts_scope.specs.Entries.{parameter_kinds}
use Rattle.sts_scope.specs.Places.{local, with, inner}
use Rattle.sts_scope.specs.Rules.{kind_at}
use Rattle.type_derive.specs.Returns.{within, bound}
use Rattle.sts_syntax.specs.declared.typed.Spot.{Spot}
use Rattle.type_derive.specs.Typing.{space_of, space, own_call, board_callee, ◌>>=◌}
use Rattle.type_derive.specs.Making.{Made}
use Rattle.type_derive.specs.inner.Filling.{◌>=>◌}
use Rattle.type_derive.specs.Built.{Site}
use Rattle.type_derive.specs.inner.Filled.{behind_statement, routine, made_tree, made_asked, made_statement, made_statements, made_locals, made_local, made_first, site, class_result}
use Rattle.sts_scope.specs.Numbers.{Numbering, numbering}
use Rattle.typed_laws.specs.inner.FilledPrograms.{library_made}
use Rattle.type_derive.specs.Derived.{AreDerived}
use Rattle.typed_laws.specs.Libraries.{taken}
use Rattle.sts_prelude.specs.Library as l
use Rattle.sts_prelude.proofs.Laws.{own_tokens}
use Rattle.typed_laws.proofs.Prelude.{L, names, k, T, show, basic, number_glyph, text_glyph, serial, stated}

abbrev IsOther : BoardAction → Type 0
IsOther (board.Library f) = ⊥
IsOther _ = Unit {0}

other : (x : BoardAction) (f : ℕ) → IsOther x → x ≡ board.Library f → ⊥
other x f u h = subst IsOther h u

abbrev number_in : BoardAction → ℕ
number_in (board.Library f) = f
number_in _ = 0

sevens : {A : Type 0} (a b c d e f g : A) (p q r s t u v : List A) → p ≡ [] → q ≡ [] → r ≡ [] → s ≡ [] → t ≡ [] → u ≡ [] → v ≡ []
    → (a ∷ p) ++ ((b ∷ q) ++ ((c ∷ r) ++ ((d ∷ s) ++ ((e ∷ t) ++ ((f ∷ u) ++ ((g ∷ v) ++ [])))))) ≡ a ∷ b ∷ c ∷ d ∷ e ∷ f ∷ g ∷ []
sevens a b c d e f g p q r s t u v i j m n o w x = rw i (rw j (rw m (rw n (rw o (rw w (rw x refl))))))

empty : {A : Type 0} (a b : List A) → a ≡ [] → b ≡ [] → a ++ (b ++ []) ≡ []
empty a b h j = rw h (rw j refl)

behind_test : {A : Type 0} (a : List A) → a ≡ [] → (a ++ []) ++ [] ≡ []
behind_test a h = rw h refl

module _ (more rest : List (List ℕ)) (text : Program) (kinds : List (Option StaticType)) where
  abbrev pub N : Numbering
  N = numbering (L ++ text)

  abbrev pub built : ℕ → Option StaticType → List Parameter → Statements → Made TypedRoutine
  built n gives params all =
      routine (T more rest text kinds) (names more rest text kinds) (k more rest text kinds) N (value_types (parameter_kinds (names more rest text kinds) params))
      (class_result (T more rest text kinds) (names more rest text kinds) (k more rest text kinds) N gives)
      (made_statements (T more rest text kinds) (names more rest text kinds) (k more rest text kinds) N
      (site (T more rest text kinds) (names more rest text kinds) (k more rest text kinds) N this.Nowhere gives true 0 params) all) n

  leds : (n : ℕ) (gives : Option StaticType) → (built n gives (l.parameter own_tokens 3 a.Number ∷ []) (l.show_leds own_tokens 10)).routines ≡ []
  leds n gives = rw (show more rest text kinds, made_tree, made_asked, made_statement, made_statements, made_locals, made_local, made_first, ◌>=>◌, board_callee, own_call, ◌>>=◌, space_of, space) (rw (basic more rest text kinds, made_tree, made_asked, made_statement, made_statements, made_locals, made_local, made_first, ◌>=>◌, board_callee, own_call, ◌>>=◌, space_of, space) (refl))

  abbrev none_in : Site → Statement → ℕ → ℕ → Type 0
  none_in s a m n = (made_statement (T more rest text kinds) (names more rest text kinds) (k more rest text kinds) N s a m n).routines ≡ []

  abbrev none_within : Site → Statements → ℕ → ℕ → Type 0
  none_within s all m n = (made_statements (T more rest text kinds) (names more rest text kinds) (k more rest text kinds) N s all m n).routines ≡ []

  also_none : (s : Site) (a : Statement) (all : Statements) (m n : ℕ) → none_in s a m n
      → ((m' n' : ℕ) → none_within (behind_statement (T more rest text kinds) (names more rest text kinds) (k more rest text kinds) N m s a) all m' n') → none_within s (also a all) m n
  also_none s a all m n h g = empty (made_statement (T more rest text kinds) (names more rest text kinds) (k more rest text kinds) N s a m n).routines _ h (g _ _)

  module _ (gives x : Option StaticType) where
    numbers_of_show : (z : List Spot) (m n : ℕ) → none_in (record { place = inner (inner (with (with (within (local 9 (Some number) false ∷ []) this.Nowhere gives true) 11 (Some number) false) 12 x false)); spots = z }) (l.show own_tokens 52) m n
    numbers_of_show z m n = rw (show more rest text kinds, made_tree, made_asked, made_statement, made_statements, made_locals, made_local, made_first, ◌>=>◌, board_callee, own_call, ◌>>=◌, space_of, space) refl

    numbers_of_pause : (z : List Spot) (m n : ℕ) → none_in (record { place = inner (inner (with (with (within (local 9 (Some number) false ∷ []) this.Nowhere gives true) 11 (Some number) false) 12 x false)); spots = z }) (l.pause own_tokens 57) m n
    numbers_of_pause z m n = rw (basic more rest text kinds, made_tree, made_asked, made_statement, made_statements, made_locals, made_local, made_first, ◌>=>◌, board_callee, own_call, ◌>>=◌, space_of, space) refl

    numbers_of_count : (z : List Spot) (m n : ℕ) → none_in (record { place = inner (inner (with (with (within (local 9 (Some number) false ∷ []) this.Nowhere gives true) 11 (Some number) false) 12 x false)); spots = z }) (l.count own_tokens 64) m n
    numbers_of_count z m n = refl

    numbers_of_next : (z : List Spot) (m n : ℕ) → none_in (record { place = inner (inner (with (with (within (local 9 (Some number) false ∷ []) this.Nowhere gives true) 11 (Some number) false) 12 x false)); spots = z }) (l.next_glyph own_tokens 68) m n
    numbers_of_next z m n = rw (number_glyph more rest text kinds, made_tree, made_asked, made_statement, made_statements, made_locals, made_local, made_first, ◌>=>◌, board_callee, own_call, ◌>>=◌, space_of, space) refl

    numbers_of_turn : (z : List Spot) (m n : ℕ) → none_within (record { place = inner (inner (with (with (within (local 9 (Some number) false ∷ []) this.Nowhere gives true) 11 (Some number) false) 12 x false)); spots = z }) (l.turn own_tokens 52) m n
    numbers_of_turn z m n =
        also_none (record { place = inner (inner (with (with (within (local 9 (Some number) false ∷ []) this.Nowhere gives true) 11 (Some number) false) 12 x false)); spots = z }) (l.show own_tokens 52) (also (l.pause own_tokens 57) (also (l.count own_tokens 64) (also (l.next_glyph own_tokens 68) done))) m n (numbers_of_show z m n) (λ m n.
        also_none (record { place = inner (inner (with (with (within (local 9 (Some number) false ∷ []) this.Nowhere gives true) 11 (Some number) false) 12 x false)); spots = (z ++ []) }) (l.pause own_tokens 57) (also (l.count own_tokens 64) (also (l.next_glyph own_tokens 68) done)) m n (numbers_of_pause (z ++ []) m n) (λ m n.
        also_none (record { place = inner (inner (with (with (within (local 9 (Some number) false ∷ []) this.Nowhere gives true) 11 (Some number) false) 12 x false)); spots = ((z ++ []) ++ []) }) (l.count own_tokens 64) (also (l.next_glyph own_tokens 68) done) m n (numbers_of_count ((z ++ []) ++ []) m n) (λ m n.
        also_none (record { place = inner (inner (with (with (within (local 9 (Some number) false ∷ []) this.Nowhere gives true) 11 (Some number) false) 12 x false)); spots = (((z ++ []) ++ []) ++ []) }) (l.next_glyph own_tokens 68) done m n (numbers_of_next (((z ++ []) ++ []) ++ []) m n) (λ m n. refl))))

    numbers_of_loop : (z : List Spot) (m n : ℕ) → none_in (record { place = with (with (within (local 9 (Some number) false ∷ []) this.Nowhere gives true) 11 (Some number) false) 12 x false; spots = z }) (l.glyph_loop own_tokens 45) m n
    numbers_of_loop z m n = behind_test _ (numbers_of_turn z _ _)

    numbers_of_first : (z : List Spot) (m n : ℕ) → none_in (record { place = (with (within (local 9 (Some number) false ∷ []) this.Nowhere gives true) 11 (Some number) false); spots = z }) (l.first_glyph own_tokens 36) m n
    numbers_of_first z m n = rw (number_glyph more rest text kinds, made_tree, made_asked, made_statement, made_statements, made_locals, made_local, made_first, ◌>=>◌, board_callee, own_call, ◌>>=◌, space_of, space) refl

  numbers_of : (n : ℕ) (gives : Option StaticType) → (built n gives (l.parameter own_tokens 25 a.Number ∷ []) (l.show_glyphs own_tokens 32)).routines ≡ []
  numbers_of n gives =
      let s0 : Site = site (T more rest text kinds) (names more rest text kinds) (k more rest text kinds) N this.Nowhere gives true 0 (l.parameter own_tokens 25 a.Number ∷ []) in
      let s1 : Site = behind_statement (T more rest text kinds) (names more rest text kinds) (k more rest text kinds) N 0 s0 (l.declare own_tokens 32 (l.number own_tokens 35 (pos 0))) in
      let s2 : ℕ → Site = λ m. behind_statement (T more rest text kinds) (names more rest text kinds) (k more rest text kinds) N m s1 (l.first_glyph own_tokens 36) in
      let x : Option StaticType = bound (T more rest text kinds) (names more rest text kinds) (k more rest text kinds) s1.place None (present (l.glyph own_tokens 39 (l.number own_tokens 43 (pos 0)))) in
      also_none s0 (l.declare own_tokens 32 (l.number own_tokens 35 (pos 0))) (also (l.first_glyph own_tokens 36) (also (l.glyph_loop own_tokens 45) done)) 0 (suc n) refl (λ m m'.
      also_none s1 (l.first_glyph own_tokens 36) (also (l.glyph_loop own_tokens 45) done) m m' (numbers_of_first gives gives s1.spots m m') (λ n n'.
      also_none (s2 m) (l.glyph_loop own_tokens 45) done n n' (numbers_of_loop gives x (s2 m).spots n n') (λ p p'. refl)))

  module _ (gives x : Option StaticType) where
    strings_show : (z : List Spot) (m n : ℕ) → none_in (record { place = inner (inner (with (with (within (local 16 (Some text_kind) false ∷ []) this.Nowhere gives true) 11 (Some number) false) 12 x false)); spots = z }) (l.show own_tokens 108) m n
    strings_show z m n = rw (show more rest text kinds, made_tree, made_asked, made_statement, made_statements, made_locals, made_local, made_first, ◌>=>◌, board_callee, own_call, ◌>>=◌, space_of, space) refl

    strings_pause : (z : List Spot) (m n : ℕ) → none_in (record { place = inner (inner (with (with (within (local 16 (Some text_kind) false ∷ []) this.Nowhere gives true) 11 (Some number) false) 12 x false)); spots = z }) (l.pause own_tokens 113) m n
    strings_pause z m n = rw (basic more rest text kinds, made_tree, made_asked, made_statement, made_statements, made_locals, made_local, made_first, ◌>=>◌, board_callee, own_call, ◌>>=◌, space_of, space) refl

    strings_count : (z : List Spot) (m n : ℕ) → none_in (record { place = inner (inner (with (with (within (local 16 (Some text_kind) false ∷ []) this.Nowhere gives true) 11 (Some number) false) 12 x false)); spots = z }) (l.count own_tokens 120) m n
    strings_count z m n = refl

    strings_next : (z : List Spot) (m n : ℕ) → none_in (record { place = inner (inner (with (with (within (local 16 (Some text_kind) false ∷ []) this.Nowhere gives true) 11 (Some number) false) 12 x false)); spots = z }) (l.next_glyph own_tokens 124) m n
    strings_next z m n = rw (text_glyph more rest text kinds, made_tree, made_asked, made_statement, made_statements, made_locals, made_local, made_first, ◌>=>◌, board_callee, own_call, ◌>>=◌, space_of, space) refl

    strings_turn : (z : List Spot) (m n : ℕ) → none_within (record { place = inner (inner (with (with (within (local 16 (Some text_kind) false ∷ []) this.Nowhere gives true) 11 (Some number) false) 12 x false)); spots = z }) (l.turn own_tokens 108) m n
    strings_turn z m n =
        also_none (record { place = inner (inner (with (with (within (local 16 (Some text_kind) false ∷ []) this.Nowhere gives true) 11 (Some number) false) 12 x false)); spots = z }) (l.show own_tokens 108) (also (l.pause own_tokens 113) (also (l.count own_tokens 120) (also (l.next_glyph own_tokens 124) done))) m n (strings_show z m n) (λ m n.
        also_none (record { place = inner (inner (with (with (within (local 16 (Some text_kind) false ∷ []) this.Nowhere gives true) 11 (Some number) false) 12 x false)); spots = (z ++ []) }) (l.pause own_tokens 113) (also (l.count own_tokens 120) (also (l.next_glyph own_tokens 124) done)) m n (strings_pause (z ++ []) m n) (λ m n.
        also_none (record { place = inner (inner (with (with (within (local 16 (Some text_kind) false ∷ []) this.Nowhere gives true) 11 (Some number) false) 12 x false)); spots = ((z ++ []) ++ []) }) (l.count own_tokens 120) (also (l.next_glyph own_tokens 124) done) m n (strings_count ((z ++ []) ++ []) m n) (λ m n.
        also_none (record { place = inner (inner (with (with (within (local 16 (Some text_kind) false ∷ []) this.Nowhere gives true) 11 (Some number) false) 12 x false)); spots = (((z ++ []) ++ []) ++ []) }) (l.next_glyph own_tokens 124) done m n (strings_next (((z ++ []) ++ []) ++ []) m n) (λ m n. refl))))

    strings_loop : (z : List Spot) (m n : ℕ) → none_in (record { place = with (with (within (local 16 (Some text_kind) false ∷ []) this.Nowhere gives true) 11 (Some number) false) 12 x false; spots = z }) (l.glyph_loop own_tokens 101) m n
    strings_loop z m n = behind_test _ (strings_turn z _ _)

    strings_first : (z : List Spot) (m n : ℕ) → none_in (record { place = (with (within (local 16 (Some text_kind) false ∷ []) this.Nowhere gives true) 11 (Some number) false); spots = z }) (l.first_glyph own_tokens 92) m n
    strings_first z m n = rw (text_glyph more rest text kinds, made_tree, made_asked, made_statement, made_statements, made_locals, made_local, made_first, ◌>=>◌, board_callee, own_call, ◌>>=◌, space_of, space) refl

  strings : (n : ℕ) (gives : Option StaticType) → (built n gives (l.parameter own_tokens 81 a.Text ∷ []) (l.show_glyphs own_tokens 88)).routines ≡ []
  strings n gives =
      let s0 : Site = site (T more rest text kinds) (names more rest text kinds) (k more rest text kinds) N this.Nowhere gives true 0 (l.parameter own_tokens 81 a.Text ∷ []) in
      let s1 : Site = behind_statement (T more rest text kinds) (names more rest text kinds) (k more rest text kinds) N 0 s0 (l.declare own_tokens 88 (l.number own_tokens 91 (pos 0))) in
      let s2 : ℕ → Site = λ m. behind_statement (T more rest text kinds) (names more rest text kinds) (k more rest text kinds) N m s1 (l.first_glyph own_tokens 92) in
      let x : Option StaticType = bound (T more rest text kinds) (names more rest text kinds) (k more rest text kinds) s1.place None (present (l.glyph own_tokens 95 (l.number own_tokens 99 (pos 0)))) in
      also_none s0 (l.declare own_tokens 88 (l.number own_tokens 91 (pos 0))) (also (l.first_glyph own_tokens 92) (also (l.glyph_loop own_tokens 101) done)) 0 (suc n) refl (λ m m'.
      also_none s1 (l.first_glyph own_tokens 92) (also (l.glyph_loop own_tokens 101) done) m m' (strings_first gives gives s1.spots m m') (λ n n'.
      also_none (s2 m) (l.glyph_loop own_tokens 101) done n n' (strings_loop gives x (s2 m).spots n n') (λ p p'. refl)))

  lines : (n : ℕ) (gives : Option StaticType) → (built n gives (l.parameter own_tokens 137 a.Text ∷ []) (l.write_line own_tokens 144)).routines ≡ []
  lines n gives = rw (serial more rest text kinds, made_tree, made_asked, made_statement, made_statements, made_locals, made_local, made_first, ◌>=>◌, board_callee, own_call, ◌>>=◌, space_of, space) (refl)

  absolutes : (n : ℕ) (gives : Option StaticType) → (built n gives (l.parameter own_tokens 161 a.Number ∷ []) (l.absolute own_tokens 168)).routines ≡ []
  absolutes n gives = refl

  least : (n : ℕ) (gives : Option StaticType) → (built n gives (l.parameter own_tokens 182 a.Number ∷ l.parameter own_tokens 186 a.Number ∷ []) (l.one_of_two own_tokens 193 6)).routines ≡ []
  least n gives = refl

  greatest : (n : ℕ) (gives : Option StaticType) → (built n gives (l.parameter own_tokens 205 a.Number ∷ l.parameter own_tokens 209 a.Number ∷ []) (l.one_of_two own_tokens 216 7)).routines ≡ []
  greatest n gives = refl

  module _ (derived : AreDerived (T more rest text kinds) L text kinds) where
    abbrev pub made : List TypedRoutine
    made = library_made (T more rest text kinds) (names more rest text kinds) (k more rest text kinds) N 0 0 L

    pub made_is : made ≡ (built 0 (kind_at (k more rest text kinds) 0) (l.parameter own_tokens 3 a.Number ∷ []) (l.show_leds own_tokens 10)).it
        ∷ (built 1 (kind_at (k more rest text kinds) 1) (l.parameter own_tokens 25 a.Number ∷ []) (l.show_glyphs own_tokens 32)).it
        ∷ (built 2 (kind_at (k more rest text kinds) 2) (l.parameter own_tokens 81 a.Text ∷ []) (l.show_glyphs own_tokens 88)).it
        ∷ (built 3 (kind_at (k more rest text kinds) 3) (l.parameter own_tokens 137 a.Text ∷ []) (l.write_line own_tokens 144)).it
        ∷ (built 4 (kind_at (k more rest text kinds) 4) (l.parameter own_tokens 161 a.Number ∷ []) (l.absolute own_tokens 168)).it
        ∷ (built 5 (kind_at (k more rest text kinds) 5) (l.parameter own_tokens 182 a.Number ∷ l.parameter own_tokens 186 a.Number ∷ []) (l.one_of_two own_tokens 193 6)).it
        ∷ (built 6 (kind_at (k more rest text kinds) 6) (l.parameter own_tokens 205 a.Number ∷ l.parameter own_tokens 209 a.Number ∷ []) (l.one_of_two own_tokens 216 7)).it ∷ []
    made_is = sevens _ _ _ _ _ _ _ _ _ _ _ _ _ _ (leds 0 (kind_at (k more rest text kinds) 0)) (numbers_of 1 (kind_at (k more rest text kinds) 1)) (strings 2 (kind_at (k more rest text kinds) 2)) (lines 3 (kind_at (k more rest text kinds) 3)) (absolutes 4 (kind_at (k more rest text kinds) 4)) (least 5 (kind_at (k more rest text kinds) 5)) (greatest 6 (kind_at (k more rest text kinds) 6))

    abbrev Row : BoardCall → ℕ → Type 0
    Row call f = (r : TypedRoutine) × (entry made f ≡ Some r) × (r.params ≡ taken (row_of call).takes) × (r.gives ≡ (row_of call).gives)

    abbrev gives_so : Option StaticType → t.ValueType
    gives_so x = class_result (T more rest text kinds) (names more rest text kinds) (k more rest text kinds) N x

    pub rows : (call : BoardCall) (f : ℕ) → (row_of call).action ≡ board.Library f → Row call f
    rows Pause f h = absurd (other (row_of Pause).action f tt h)
    rows Forever f h = absurd (other (row_of Forever).action f tt h)
    rows ShowLeds f h = subst (λ (x : ℕ). Row ShowLeds x) (ap number_in h) ((built 0 (kind_at (k more rest text kinds) 0) (l.parameter own_tokens 3 a.Number ∷ []) (l.show_leds own_tokens 10)).it, ap (λ (xs : List TypedRoutine). entry xs 0) made_is, refl, ap gives_so (stated more rest text kinds derived 0 (Some nothing) (omega arith) refl))
    rows ShowNumber f h = subst (λ (x : ℕ). Row ShowNumber x) (ap number_in h) ((built 1 (kind_at (k more rest text kinds) 1) (l.parameter own_tokens 25 a.Number ∷ []) (l.show_glyphs own_tokens 32)).it, ap (λ (xs : List TypedRoutine). entry xs 1) made_is, refl, ap gives_so (stated more rest text kinds derived 1 (Some nothing) (omega arith) refl))
    rows ShowString f h = subst (λ (x : ℕ). Row ShowString x) (ap number_in h) ((built 2 (kind_at (k more rest text kinds) 2) (l.parameter own_tokens 81 a.Text ∷ []) (l.show_glyphs own_tokens 88)).it, ap (λ (xs : List TypedRoutine). entry xs 2) made_is, refl, ap gives_so (stated more rest text kinds derived 2 (Some nothing) (omega arith) refl))
    rows ClearScreen f h = absurd (other (row_of ClearScreen).action f tt h)
    rows Unplot f h = absurd (other (row_of Unplot).action f tt h)
    rows Plot f h = absurd (other (row_of Plot).action f tt h)
    rows Toggle f h = absurd (other (row_of Toggle).action f tt h)
    rows OnButtonPressed f h = absurd (other (row_of OnButtonPressed).action f tt h)
    rows ButtonIsPressed f h = absurd (other (row_of ButtonIsPressed).action f tt h)
    rows RunningTime f h = absurd (other (row_of RunningTime).action f tt h)
    rows InBackground f h = absurd (other (row_of InBackground).action f tt h)
    rows OnEvent f h = absurd (other (row_of OnEvent).action f tt h)
    rows OnEventFlags f h = absurd (other (row_of OnEventFlags).action f tt h)
    rows RaiseEvent f h = absurd (other (row_of RaiseEvent).action f tt h)
    rows RaiseNow f h = absurd (other (row_of RaiseNow).action f tt h)
    rows WaitForEvent f h = absurd (other (row_of WaitForEvent).action f tt h)
    rows EventValue f h = absurd (other (row_of EventValue).action f tt h)
    rows Panic f h = absurd (other (row_of Panic).action f tt h)
    rows WriteNumber f h = absurd (other (row_of WriteNumber).action f tt h)
    rows WriteString f h = absurd (other (row_of WriteString).action f tt h)
    rows WriteLine f h = subst (λ (x : ℕ). Row WriteLine x) (ap number_in h) ((built 3 (kind_at (k more rest text kinds) 3) (l.parameter own_tokens 137 a.Text ∷ []) (l.write_line own_tokens 144)).it, ap (λ (xs : List TypedRoutine). entry xs 3) made_is, refl, ap gives_so (stated more rest text kinds derived 3 (Some nothing) (omega arith) refl))
    rows DigitalWritePin f h = absurd (other (row_of DigitalWritePin).action f tt h)
    rows SendNumber f h = absurd (other (row_of SendNumber).action f tt h)
    rows Abs f h = subst (λ (x : ℕ). Row Abs x) (ap number_in h) ((built 4 (kind_at (k more rest text kinds) 4) (l.parameter own_tokens 161 a.Number ∷ []) (l.absolute own_tokens 168)).it, ap (λ (xs : List TypedRoutine). entry xs 4) made_is, refl, ap gives_so (stated more rest text kinds derived 4 (Some number) (omega arith) refl))
    rows Min f h = subst (λ (x : ℕ). Row Min x) (ap number_in h) ((built 5 (kind_at (k more rest text kinds) 5) (l.parameter own_tokens 182 a.Number ∷ l.parameter own_tokens 186 a.Number ∷ []) (l.one_of_two own_tokens 193 6)).it, ap (λ (xs : List TypedRoutine). entry xs 5) made_is, refl, ap gives_so (stated more rest text kinds derived 5 (Some number) (omega arith) refl))
    rows Max f h = subst (λ (x : ℕ). Row Max x) (ap number_in h) ((built 6 (kind_at (k more rest text kinds) 6) (l.parameter own_tokens 205 a.Number ∷ l.parameter own_tokens 209 a.Number ∷ []) (l.one_of_two own_tokens 216 7)).it, ap (λ (xs : List TypedRoutine). entry xs 6) made_is, refl, ap gives_so (stated more rest text kinds derived 6 (Some number) (omega arith) refl))
    rows Show f h = absurd (other (row_of Show).action f tt h)
    rows NumberGlyph f h = absurd (other (row_of NumberGlyph).action f tt h)
    rows TextGlyph f h = absurd (other (row_of TextGlyph).action f tt h)
