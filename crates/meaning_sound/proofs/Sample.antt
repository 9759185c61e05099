-- Worked programs are well typed.
use Rattle.std.proofs.Common.{◌≡◌, ℕ, zero, suc, inl, inr, List, [], ◌∷◌, Some, None, refl, ap, sym, ◌∙◌, subst}
use Rattle.sts_syntax.specs.Types as t
use Rattle.sts_syntax.specs.Types.{ValueType}
use Rattle.sts_syntax.specs.TypedTrees.{TypedRoutine, ClassEntry, TypedProgram}
use Rattle.sts_syntax.specs.TypeRules.{entry, IsOneOf, arithmetic_operators, HasClass, HasRoutine, Climbs, HasField, IsMember, HasMethod}
use Rattle.sts_syntax.specs.WellTypedPrograms.{IsClass, IsRoutine, IsWellTyped}
use Rattle.sts_meaning.specs.Programs.{make_point}
use Rattle.sts_meaning.specs.Programs.{blinking}
use Rattle.sts_meaning.specs.Orders.{growing_list, telling, get, scaled_get, make_scaled, uses_methods, scaled, methods}
use Rattle.meaning_sound.proofs.Lists.{some_same}

-- the first function of a program, and the second
abbrev first_in : List TypedRoutine → TypedRoutine
first_in [] = make_point
first_in (r ∷ rest) = r

abbrev second_in : List TypedRoutine → TypedRoutine
second_in [] = make_point
second_in (r ∷ rest) = first_in rest

abbrev first_function : TypedProgram → TypedRoutine
first_function P = first_in P.functions

abbrev second_function : TypedProgram → TypedRoutine
second_function P = second_in P.functions

is_add : IsOneOf 13 arithmetic_operators
is_add = inr (inr (inr (inr (inr (inr (inl refl))))))

is_multiply : IsOneOf 15 arithmetic_operators
is_multiply = inr (inr (inr (inr (inr (inr (inr (inr (inl refl))))))))

makes_point : IsMember methods 0 0 [] (t.Object 0)
makes_point = (make_point, 0, refl, refl, (0, refl), refl)

makes_scaled : IsMember methods 1 4 [] (t.Object 1)
makes_scaled = (make_scaled, 1, refl, refl, (0, refl), refl)

gets : IsMember methods 0 2 (t.Number ∷ []) t.Number
gets = (get, 0, refl, refl, (0, refl), refl)

gets_scaled : IsMember methods 1 3 (t.Number ∷ []) t.Number
gets_scaled = (scaled_get, 1, refl, refl, (0, refl), refl)

abbrev A : ClassEntry
A = record { base = None; fields = t.Number ∷ []; slots = 2 ∷ []; maker = 0 }

abbrev B : ClassEntry
B = scaled

gets_in_slot : HasMethod methods 0 0 (t.Number ∷ []) t.Number
gets_in_slot = (A, 2, refl, refl, gets)

make_point_is : IsRoutine methods 0 make_point
make_point_is = record { body = ((((refl, refl), 0, refl, (A, refl, refl)), (refl, refl), refl, inl refl), tt); locals = refl }

telling_is : IsRoutine methods 1 telling
telling_is = record { body = (((refl, inl refl, tt), refl, tt), ((refl, inl refl), tt)); locals = refl }

get_is : IsRoutine methods 2 get
get_is = record { body = ((((((refl, refl), 0, refl, (A, refl, refl)), refl, inl (is_add, refl, refl, refl))), inl refl), tt); locals = refl }

scaled_get_is : IsRoutine methods 3 scaled_get
scaled_get_is =
    record {
      body = ((((t.Number ∷ [], (1, B, 0, 0, A, (refl, refl), refl, refl, refl, refl, gets), (refl, inl refl, tt)), (refl, refl), inl (is_multiply, refl, refl, refl)), inl refl), tt);
      locals = refl;
    }

make_scaled_is : IsRoutine methods 4 make_scaled
make_scaled_is = record { body = (A, [], refl, refl, makes_point, tt, refl, tt); locals = refl }

main_is : IsRoutine methods 5 uses_methods
main_is =
    record {
      body = (
        (t.Object 0, (refl, refl), ((A, [], refl, makes_point, tt, refl), inl refl), tt),
        (
          (((0, t.Number ∷ [], refl, refl, gets_in_slot, ((refl, refl), inl refl, tt)), inl refl, tt), refl, tt),
          (
            (refl, (B, [], refl, makes_scaled, tt, refl), refl, inr (inl (1, (B, 0, refl, refl, refl)))),
            (
              (((0, t.Number ∷ [], refl, refl, gets_in_slot, ((refl, refl), inl refl, tt)), inl refl, tt), refl, tt),
              (
                (refl, refl, refl, inr (inr (refl, tt))),
                ((((0, t.Number ∷ [], refl, refl, gets_in_slot, ((telling, refl, ((refl, refl), inl refl, tt), refl), inl refl, tt)), inl refl, tt), refl, tt), tt),
              ),
            ),
          ),
        ),
      );
      locals = refl;
    }

routine_is : (f : ℕ) (r : TypedRoutine) → HasRoutine methods f r → IsRoutine methods f r
routine_is zero r h = subst (λ (x : TypedRoutine). IsRoutine methods 0 x) (some_same (Some make_point) make_point r refl h) make_point_is
routine_is (suc zero) r h = subst (λ (x : TypedRoutine). IsRoutine methods 1 x) (some_same (Some telling) telling r refl h) telling_is
routine_is (suc (suc zero)) r h = subst (λ (x : TypedRoutine). IsRoutine methods 2 x) (some_same (Some get) get r refl h) get_is
routine_is (suc (suc (suc zero))) r h = subst (λ (x : TypedRoutine). IsRoutine methods 3 x) (some_same (Some scaled_get) scaled_get r refl h) scaled_get_is
routine_is (suc (suc (suc (suc zero)))) r h = subst (λ (x : TypedRoutine). IsRoutine methods 4 x) (some_same (Some make_scaled) make_scaled r refl h) make_scaled_is
routine_is (suc (suc (suc (suc (suc zero))))) r h = subst (λ (x : TypedRoutine). IsRoutine methods 5 x) (some_same (Some uses_methods) uses_methods r refl h) main_is
routine_is (suc (suc (suc (suc (suc (suc f)))))) r h = cc

field_of_b : (f : ℕ) (u : ValueType) → HasField methods 0 f u → HasField methods 1 f u
field_of_b f u h = (B, refl, subst (λ (x : ClassEntry). entry x.fields f ≡ Some u) (some_same (Some A) h.0 A h.1 refl) h.2)

method_of_b : (s : ℕ) (params : List ValueType) (u : ValueType) → HasMethod methods 0 s params u → HasMethod methods 1 s params u
method_of_b s params u h = in_slot s (subst (λ (x : ClassEntry). entry x.slots s ≡ Some h.1) (some_same (Some A) h.0 A h.2 refl) h.3)
  where
    in_slot : (s : ℕ) → entry (2 ∷ []) s ≡ Some h.1 → HasMethod methods 1 s params u
    in_slot (suc s) e = cc
    in_slot zero e =
        (let m = h.4 in
        let f : 2 ≡ h.1 = some_same (Some 2) 2 h.1 refl e in
        let r : get ≡ m.0 = some_same (entry methods.functions 2) get m.0 refl (ap (entry methods.functions) f ∙ m.2) in
        let ps : t.Object 0 ∷ t.Number ∷ [] ≡ t.Object m.1 ∷ params = ap (λ (x : TypedRoutine). x.params) r ∙ m.3 in
        let rest : t.Number ∷ [] ≡ params = cc in
        (B, 3, refl, refl, (scaled_get, 1, refl, ap (λ (x : List ValueType). t.Object 1 ∷ x) rest, (0, refl), ap (λ (x : TypedRoutine). x.gives) r ∙ m.5)))

no_base_of_a : (n c : ℕ) → Climbs methods (suc n) 0 c → ⊥
no_base_of_a n c h = (let none : Some h.1 ≡ None = sym h.3 ∙ ap (λ (x : ClassEntry). x.base) (some_same (Some A) h.0 A h.2 refl) in cc)

no_way_back : (n : ℕ) → Climbs methods n 0 1 → ⊥
no_way_back zero h = cc
no_way_back (suc n) h = no_base_of_a n 1 h

chain_of_b : (n : ℕ) → Climbs methods (suc n) 1 1 → ⊥
chain_of_b n h =
    (let base : Some h.1 ≡ Some 0 = sym h.3 ∙ ap (λ (x : ClassEntry). x.base) (some_same (Some B) h.0 B h.2 refl) in
    let is : h.1 ≡ 0 = some_same (Some h.1) h.1 0 refl base in
    no_way_back n (subst (λ (x : ℕ). Climbs methods n x 1) is h.4))

class_a : IsClass methods 0 A
class_a =
    record {
      base = λ b e. cc;
      chain = λ n h. no_base_of_a n 0 h;
      fields = λ b f u e k. cc;
      methods = λ b s params u e k. cc;
      slots = λ s f e. in_slot s f e;
      maker = ([], make_point, refl, refl, refl);
    }
  where
    in_slot : (s f : ℕ) → entry (2 ∷ []) s ≡ Some f → (params : List ValueType) × (u : ValueType) × IsMember methods 0 f params u
    in_slot (suc s) f e = cc
    in_slot zero f e = (t.Number ∷ [], t.Number, subst (λ (x : ℕ). IsMember methods 0 x (t.Number ∷ []) t.Number) (some_same (Some 2) 2 f refl e) gets)

class_b : IsClass methods 1 B
class_b =
    record {
      base = λ b e. (A, subst (λ (x : ℕ). HasClass methods x A) (some_same (Some 0) 0 b refl e) refl);
      chain = chain_of_b;
      fields = λ b f u e k. field_of_b f u (subst (λ (x : ℕ). HasField methods x f u) (sym (some_same (Some 0) 0 b refl e)) k);
      methods = λ b s params u e k. method_of_b s params u (subst (λ (x : ℕ). HasMethod methods x s params u) (sym (some_same (Some 0) 0 b refl e)) k);
      slots = λ s f e. in_slot s f e;
      maker = ([], make_scaled, refl, refl, refl);
    }
  where
    in_slot : (s f : ℕ) → entry (3 ∷ []) s ≡ Some f → (params : List ValueType) × (u : ValueType) × IsMember methods 1 f params u
    in_slot (suc s) f e = cc
    in_slot zero f e = (t.Number ∷ [], t.Number, subst (λ (x : ℕ). IsMember methods 1 x (t.Number ∷ []) t.Number) (some_same (Some 3) 3 f refl e) gets_scaled)

class_is : (c : ℕ) (class : ClassEntry) → HasClass methods c class → IsClass methods c class
class_is zero class h = subst (λ (x : ClassEntry). IsClass methods 0 x) (some_same (Some A) A class refl h) class_a
class_is (suc zero) class h = subst (λ (x : ClassEntry). IsClass methods 1 x) (some_same (Some B) B class refl h) class_b
class_is (suc (suc c)) class h = cc

pub methods_are_typed : IsWellTyped methods
methods_are_typed = record { classes = class_is; functions = routine_is; main = (uses_methods, refl, refl, refl) }

-- the main program of `growing_list`: a literal, a `for of` with an `if` and a push in it
gone_through : (r : TypedRoutine) → HasRoutine growing_list 0 r → IsRoutine growing_list 0 r
gone_through r h =
    subst (λ (x : TypedRoutine). IsRoutine growing_list 0 x) (some_same (entry growing_list.functions 0) (first_function growing_list) r refl h)
    (record {
      body = (
        (t.ListOf t.Number, (refl, refl), ((t.Number, refl, ((refl, refl), inl refl, ((refl, refl), inl refl, tt))), inl refl), tt),
        (
          (
            t.Number,
            refl,
            refl,
            refl,
            refl,
            refl,
            (
              (((inl refl, refl), inl refl, tt), refl, tt),
              (
                (
                  (((inl refl, refl), (refl, refl), inr (inr (inl refl, ((λ e. cc), inl (inl refl)), refl))), refl),
                  (refl, (refl, refl), t.Number, refl, inl refl, refl),
                ),
                tt,
              ),
            ),
          ),
          tt,
        ),
      );
      locals = refl;
    })

pub growing_list_is_typed : IsWellTyped growing_list
growing_list_is_typed =
    record {
      classes = λ c class h. no_class c class h;
      functions = λ f r h. function_is f r h;
      main = (first_function growing_list, refl, refl, refl);
    }
  where
    no_class : (c : ℕ) (class : ClassEntry) → HasClass growing_list c class → IsClass growing_list c class
    no_class c class h = cc

    function_is : (f : ℕ) (r : TypedRoutine) → HasRoutine growing_list f r → IsRoutine growing_list f r
    function_is zero r h = gone_through r h
    function_is (suc f) r h = cc

-- a handler, and a `forever` of it
pub blinking_is_typed : IsWellTyped blinking
blinking_is_typed =
    record {
      classes = λ c class h. no_class c class h;
      functions = λ f r h. function_is f r h;
      main = (second_function blinking, refl, refl, refl);
    }
  where
    no_class : (c : ℕ) (class : ClassEntry) → HasClass blinking c class → IsClass blinking c class
    no_class c class h = cc

    function_is : (f : ℕ) (r : TypedRoutine) → HasRoutine blinking f r → IsRoutine blinking f r
    function_is zero r h =
        subst (λ (x : TypedRoutine). IsRoutine blinking 0 x) (some_same (entry blinking.functions 0) (first_function blinking) r refl h)
        (record { body = ((((refl, refl), inl refl, ((refl, refl), inl refl, tt)), refl, tt), tt); locals = refl })
    function_is (suc zero) r h =
        subst (λ (x : TypedRoutine). IsRoutine blinking 1 x) (some_same (entry blinking.functions 1) (second_function blinking) r refl h)
        (record { body = ((((first_function blinking, refl, refl, refl), tt), refl, tt), tt); locals = refl })
    function_is (suc (suc f)) r h = cc
