-- Rules of declarations at what is known, and that they don't ask for the types that it has already.
use Rattle.std.proofs.Common.{◌≡◌, ℕ, zero, suc, ◌<◌, ◌≤◌, List, [], ◌∷◌, length, get_or, refl, sym, ap, ◌∙◌, Option, Some, None}
use Rattle.std.specs.Prelude.{nat_lt, slice_get}
use Rattle.sts_base.specs.declared.tables.Tables.{Tables}
use Rattle.sts_scope.specs.declared.kinds.StaticType.{StaticType}
use Rattle.sts_scope.specs.declared.known.Known.{Known}
use Rattle.sts_scope.specs.Entries.{Naming}
use Rattle.sts_scope.specs.Rules.{kind_at}
use Rattle.sts_syntax.specs.Programs.{Program}
use Rattle.sts_scope.specs.Scopes.{all_entries, all_classes, library_entries}
use Rattle.type_derive.specs.Derived.{known, Source, follows, rule, at}
use Rattle.derived_types.specs.declared.origins.Origin.{Origin}
use Rattle.derived_types.specs.Origins.{source, sources}
use Rattle.derived_types.specs.Underway.{Keeps}
use Rattle.derived_types.proofs.Least.{IsMonotone}
use Rattle.derived_types.proofs.Gathered.{source_none, source_at}
use Rattle.type_derive.proofs.Laws.{rule_grows}

abbrev pub ruled : Tables → Naming → Known → ℕ → Option Source → Option StaticType
ruled t f k d o = elim o [ None ↦ None | Some s ↦ follows f t k (nat_lt d k.library) s ]

pub rule_none : (t : Tables) (f : Naming) (k : Known) (xs : List Origin) (d : ℕ) → length xs ≤ d → None ≡ rule t f k (sources xs) k.kinds d
rule_none t f k xs d h = sym (ap (ruled t f k d) (source_none xs d h))

pub rule_some : (t : Tables) (f : Naming) (k : Known) (xs : List Origin) (d : ℕ) (o : Origin) → d < length xs → o ≡ get_or xs d o →
    follows f t k (nat_lt d k.library) (source o) ≡ rule t f k (sources xs) k.kinds d
rule_some t f k xs d o lt is = sym (ap (ruled t f k d) (source_at xs d o lt is))

pub monotone : (t : Tables) (f : Naming) (k : Known) (s : List Source) → IsMonotone (rule t f k s)
monotone t f k s = λ xs ys w d. rule_grows t f k s xs ys w d

kept_at : (xs : List (Option StaticType)) (d : ℕ) → (elim (slice_get xs d) as (λ x. Option StaticType) [ None ↦ None | Some kind ↦ kind ]) ≡ at xs d
kept_at [] zero = refl
kept_at [] (suc d) = refl
kept_at (x ∷ xs) zero = refl
kept_at (x ∷ xs) (suc d) = kept_at xs d

pub known_at : (k : Known) (d : ℕ) → kind_at k d ≡ at k.kinds d
known_at k d = kept_at k.kinds d

pub same_rule : (t : Tables) (f : Naming) (s : List Source) (k l : Known) → Keeps k l → rule t f l s ≡ rule t f k s
same_rule t f s k l h = ap (λ m. rule t f m s) h

pub keeps : (j k l : Known) → Keeps j k → Keeps k l → Keeps j l
keeps j k l h g = g ∙ ap {A = Known} (λ m. record m { kinds = l.kinds }) h

-- what is known of a library and a text, with the types of the second
pub known_is : (library text : Program) (k n : Known) → k.entries ≡ all_entries library text → k.classes ≡ all_classes library text → k.library ≡ library_entries library text → Keeps k n →
    n ≡ known library text n.kinds
known_is library text k n he hc hl h =
    h ∙ ap (λ es. record { entries = es; classes = k.classes; kinds = n.kinds; library = k.library }) he
    ∙ ap (λ cs. record { entries = all_entries library text; classes = cs; kinds = n.kinds; library = k.library }) hc
    ∙ ap (λ l. record { entries = all_entries library text; classes = all_classes library text; kinds = n.kinds; library = l }) hl
