-- The library of the prelude is as the law of accepted texts asks.
use Rattle.std.proofs.Common.{◌≡◌, ◌≤◌, ◌<◌, ◌+◌, ℕ, zero, suc, Bool, true, false, List, [], ◌∷◌, ◌++◌, length, cond, Option, Some, None, refl, sym, ap, ◌∙◌, subst, arith}
use Rattle.std.specs.Prelude.{slice_get, nat_lt, if◌then◌else◌, IsSome}
use Rattle.std.specs.List.{position_from}
use Rattle.std.proofs.lemmas.Bool.{le-leb}
use Rattle.sts_base.specs.declared.tables.Tables.{Tables}
use Rattle.sts_syntax.specs.Programs.{Program}
use Rattle.sts_scope.specs.declared.kinds.StaticType.{StaticType}
use Rattle.sts_scope.specs.declared.entries.Owner.TheVariants as o
use Rattle.sts_scope.specs.declared.known.Known.{Known}
use Rattle.sts_scope.specs.declared.known.Found.TheVariants as found
use Rattle.sts_scope.specs.declared.known.This.TheVariants as this
use Rattle.sts_scope.specs.Entries.{Naming, entries_from}
use Rattle.sts_scope.specs.Failures.{Failure, ◌then◌}
use Rattle.sts_scope.specs.Kinds.{number, nothing}
use Rattle.sts_scope.specs.Lookup.{declares, sort_of}
use Rattle.sts_scope.specs.Places.{local, global_named, whole_found, sort_found}
use Rattle.sts_scope.specs.Rules.{kind_at}
use Rattle.sts_scope.specs.Scopes.{all_names}
use Rattle.type_derive.specs.Derived.{at, Source, Stated, follows, known, AreDerived, all_sources}
use Rattle.type_derive.specs.Returns.{within}
use Rattle.type_derive.specs.Nodes.{statements_failure}
use Rattle.typed_laws.specs.Formed.{IsFormedProgram}
use Rattle.typed_laws.specs.Libraries.{library_failure}
use Rattle.sts_prelude.specs.Library as l
use Rattle.sts_prelude.proofs.Laws.{own, own_tokens}
use Rattle.typed_laws.proofs.Typed.{some}
use Rattle.typed_laws.proofs.NoFailure.{leds, numbers, strings, lines, absolutes, least, greatest}

abbrev pub L : Program
L = l.library own_tokens

past : {A : Type 0} (p : A → Bool) (n : ℕ) (xs : List A) (d : ℕ) → position_from p n xs ≡ Some d → n ≤ d
past p n [] d h = absurd (let e : ◌≡◌ {A = Option ℕ} None (Some d) = h in cc)
past p n (x ∷ xs) d h =
    let go : (b : Bool) → cond b (Some n) (position_from p (n + 1) xs) ≡ Some d → n ≤ d = λ b. elim b as (λ c. cond c (Some n) (position_from p (n + 1) xs) ≡ Some d → n ≤ d) [
      | true ↦ (λ q. let e : n ≡ d = cc in omega (arith, e))
      | false ↦ (λ q. let e : n + 1 ≤ d = past p (n + 1) xs d q in omega (arith, e))
    ] in
    go (p x) h

hidden : (k : Known) (x : Option ℕ) → ((d : ℕ) → x ≡ Some d → k.library ≤ d) → whole_found k true x ≡ found.Unknown
hidden k None h = refl
hidden k (Some d) h = ap (λ (b : Bool). if b then found.Unknown else sort_found d (sort_of k.entries d)) (le-leb k.library d (h d refl))

kind_is_at : (ks : List (Option StaticType)) (d : ℕ) → at ks d ≡ elim (slice_get ks d) [ None ↦ None | Some kind ↦ kind ]
kind_is_at [] d = refl
kind_is_at (x ∷ ks) zero = refl
kind_is_at (x ∷ ks) (suc d) = kind_is_at ks d

pub formed : IsFormedProgram L
formed = (
  ((tt, (tt, tt)), ((tt, (refl, tt)), tt)),
  (
    (
      (refl, tt),
      (
        ((tt, (tt, (refl, tt))), tt),
        (
          (
            (tt, refl),
            (
              (tt, (tt, tt)),
              (
                (tt, (refl, tt)),
                ((tt, refl), ((tt, (tt, (tt, (tt, tt)))), tt)),
              ),
            ),
          ),
          tt,
        ),
      ),
    ),
    (
      (
        (refl, tt),
        (
          ((tt, (tt, (refl, tt))), tt),
          (
            (
              (tt, refl),
              (
                (tt, (tt, tt)),
                (
                  (
                    tt,
                    (refl, tt),
                  ),
                  ((tt, refl), ((tt, (tt, (tt, (tt, tt)))), tt)),
                ),
              ),
            ),
            tt,
          ),
        ),
      ),
      (
        ((tt, (tt, tt)), ((tt, (tt, tt)), tt)),
        (
          (
            (
              (tt, refl),
              (refl, tt),
              tt,
            ),
            tt,
          ),
          ((((tt, tt), tt, tt), tt), ((((tt, tt), tt, tt), tt), tt)),
        ),
      ),
    ),
  ),
)

module _ (more rest : List (List ℕ)) (text : Program) (kinds : List (Option StaticType)) where
  abbrev pub names : Naming
  names = all_names L text

  abbrev pub k : Known
  k = known L text kinds

  abbrev pub T : Tables
  T = record { names = own.names ++ more; texts = own.texts ++ rest }

  pub show : global_named k true 5 ≡ found.Unknown
  show = hidden k (position_from (declares o.Whole 5) 7 (entries_from names 0 text)) (past (declares o.Whole 5) 7 (entries_from names 0 text))

  pub basic : global_named k true 6 ≡ found.Unknown
  basic = hidden k (position_from (declares o.Whole 6) 7 (entries_from names 0 text)) (past (declares o.Whole 6) 7 (entries_from names 0 text))

  pub number_glyph : global_named k true 13 ≡ found.Unknown
  number_glyph = hidden k (position_from (declares o.Whole 13) 7 (entries_from names 0 text)) (past (declares o.Whole 13) 7 (entries_from names 0 text))

  pub text_glyph : global_named k true 18 ≡ found.Unknown
  text_glyph = hidden k (position_from (declares o.Whole 18) 7 (entries_from names 0 text)) (past (declares o.Whole 18) 7 (entries_from names 0 text))

  pub serial : global_named k true 20 ≡ found.Unknown
  serial = hidden k (position_from (declares o.Whole 20) 7 (entries_from names 0 text)) (past (declares o.Whole 20) 7 (entries_from names 0 text))

  module _ (derived : AreDerived T L text kinds) where
    pub stated : (d : ℕ) (kind : Option StaticType) → d < 7 → slice_get (all_sources L text) d ≡ Some (Stated kind) → kind_at k d ≡ kind
    stated d kind near h =
        let F : Option Source → Option StaticType = λ x. elim x [ None ↦ None | Some s ↦ follows names T k (nat_lt d k.library) s ] in
        let long : length kinds ≡ suc (suc (suc (suc (suc (suc (suc (length (entries_from names 0 text)))))))) = derived.each in
        sym (kind_is_at kinds d) ∙ derived.least.solves d (omega (arith, near, long)) ∙ ap F h

    number_4 : kind_at k 4 ≡ Some number
    number_4 = stated 4 (Some number) (omega arith) refl

    number_5 : kind_at k 5 ≡ Some number
    number_5 = stated 5 (Some number) (omega arith) refl

    number_6 : kind_at k 6 ≡ Some number
    number_6 = stated 6 (Some number) (omega arith) refl

    -- each function has a type
    there : (d : ℕ) (u : StaticType) → kind_at k d ≡ Some u → IsSome (kind_at k d)
    there d u h = some (kind_at k d) (record { it = u; is = h })

    pub each_typed : (d : ℕ) → d < 7 → IsSome (kind_at k d)
    each_typed zero near = there 0 nothing (stated 0 (Some nothing) (omega arith) refl)
    each_typed (suc zero) near = there 1 nothing (stated 1 (Some nothing) (omega arith) refl)
    each_typed (suc (suc zero)) near = there 2 nothing (stated 2 (Some nothing) (omega arith) refl)
    each_typed (suc (suc (suc zero))) near = there 3 nothing (stated 3 (Some nothing) (omega arith) refl)
    each_typed (suc (suc (suc (suc zero)))) near = there 4 number number_4
    each_typed (suc (suc (suc (suc (suc zero))))) near = there 5 number number_5
    each_typed (suc (suc (suc (suc (suc (suc zero)))))) near = there 6 number number_6
    each_typed (suc (suc (suc (suc (suc (suc (suc d))))))) near = absurd (omega (arith, near))

    all_none : (a b c d e f g : Option Failure) → a ≡ None → b ≡ None → c ≡ None → d ≡ None → e ≡ None → f ≡ None → g ≡ None
        → a then b then c then d then e then f then g then None ≡ None
    all_none a b c d e f g p q r s t u v = rw p (rw q (rw r (rw s (rw t (rw u (rw v refl))))))

    pub no_failure : library_failure T names k 0 L ≡ None
    no_failure = all_none _ _ _ _ _ _ _ (leds more rest names k (kind_at k 0) show basic) (numbers more rest names k (kind_at k 1) number_glyph show basic)
        (strings more rest names k (kind_at k 2) text_glyph show basic) (lines more rest names k (kind_at k 3) serial)
        (subst (λ (x : Option StaticType). statements_failure T names k (within (local 9 (Some number) false ∷ []) this.Nowhere x true) (l.absolute own_tokens 168) ≡ None) (sym number_4) (absolutes more rest names k))
        (subst (λ (x : Option StaticType). statements_failure T names k (within (local 25 (Some number) false ∷ local 26 (Some number) false ∷ []) this.Nowhere x true) (l.one_of_two own_tokens 193 6) ≡ None) (sym number_5) (least more rest names k))
        (subst (λ (x : Option StaticType). statements_failure T names k (within (local 25 (Some number) false ∷ local 26 (Some number) false ∷ []) this.Nowhere x true) (l.one_of_two own_tokens 216 7) ≡ None) (sym number_6) (greatest more rest names k))
