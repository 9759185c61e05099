-- Boards that are mounted one after the other.
use Rattle.std.proofs.Common.{◌≡◌, ◌≤◌, ◌<◌, ℕ, ◌+◌, List, [], ◌∷◌, ◌++◌, length, length-append, append_assoc, append-nil, inr, refl, ap, sym, ◌∙◌, subst, arith, All, vec_len}
use Rattle.std.specs.declared.vec.Vec.{Vec}
use Rattle.std.specs.declared.alloc.Global.{Global}
use Rattle.std.proofs.lemmas.List.Elements.{All-head, All-tail}
use Rattle.thumb_code.specs.Map.{flash_end}
use Rattle.event_script.specs.declared.script.Script.{Script}
use Rattle.event_script.specs.Sound.{IsSound}
use Rattle.event_script.specs.World.{world_entries}
use Rattle.class_radio.specs.declared.player.Player.{Player}
use Rattle.class_radio.specs.Playing.{Setup, IsNumbered, IsFresh}
use Rattle.class_radio.specs.Outcome.{setups_of}
use Rattle.class_radio.specs.Stepped.{Past, begun_pasts, EachBoard, IsAtMoment}
use Rattle.class_radio.proofs.Boards.{each_long, each_more}

begun_append : (ss : List Setup) (s : Setup) → begun_pasts (ss ++ s ∷ []) ≡ begun_pasts ss ++ begun_pasts (s ∷ [])
begun_append [] s = refl
begun_append (r ∷ rs) s = ap (λ (hs : List Past). record { setup = r; script = world_entries r.script.entries; used = []; seen = [] } ∷ hs) (begun_append rs s)

abbrev IsFit : Vec ℕ Global → Type 0
IsFit image = vec_len image ≤ flash_end

-- some boards were mounted, and these images and scripts are left
pub record Halfway (budget : ℕ) (images : List (Vec ℕ Global)) (scripts : List Script) (ps : List Player) (left : List (Vec ℕ Global)) (others : List Script) : Type 0 where
  pub done : List Setup
  pub mounted : EachBoard (IsAtMoment budget 0) 0 (begun_pasts done) ps
  pub all : done ++ setups_of left others ≡ setups_of images scripts
  pub few : length ps + length left ≤ 8
  pub same : length others ≡ length left
  pub each : All (λ (image : Vec ℕ Global). vec_len image ≤ flash_end) left
  pub sound : All IsSound others

module _ (budget : ℕ) (images : List (Vec ℕ Global)) (scripts : List Script) where
  pub half_begun : (ps : List Player) (left : List (Vec ℕ Global)) (others : List Script) → ps ≡ [] → left ≡ images → others ≡ scripts → length images ≤ 8 → length scripts ≡ length images
      → All (λ (image : Vec ℕ Global). vec_len image ≤ flash_end) images → All IsSound scripts → Halfway budget images scripts ps left others
  half_begun ps left others none first second few same each sound =
      subst (λ (qs : List Player). Halfway budget images scripts qs left others) (sym none)
      (subst (λ (ls : List (Vec ℕ Global)). Halfway budget images scripts [] ls others) (sym first)
      (subst (λ (os : List Script). Halfway budget images scripts [] images os) (sym second)
      (record { done = []; mounted = tt; all = refl; few = omega (arith, few); same = same; each = each; sound = sound })))

  pub half_turned : (ps : List Player) (left left' : List (Vec ℕ Global)) (others others' : List Script) (image : Vec ℕ Global) (script : Script)
      → Halfway budget images scripts ps left others → left ≡ image ∷ left' → others ≡ script ∷ others' → Halfway budget images scripts ps (image ∷ left') (script ∷ others')
  half_turned ps left left' others others' image script h e f =
      subst (λ (os : List Script). Halfway budget images scripts ps (image ∷ left') os) f (subst (λ (ls : List (Vec ℕ Global)). Halfway budget images scripts ps ls others) e h)

  module _ (ps : List Player) (image : Vec ℕ Global) (left : List (Vec ℕ Global)) (script : Script) (others : List Script) (h : Halfway budget images scripts ps (image ∷ left) (script ∷ others)) where
    pub half_few : length ps < 8
    half_few = (let f = h.few in omega (arith, f))

    pub half_fits : vec_len image ≤ flash_end
    half_fits = All-head (λ (image : Vec ℕ Global). vec_len image ≤ flash_end) image left h.each

    pub half_sound : IsSound script
    half_sound = All-head IsSound script others h.sound

    pub half_more : (p : Player) → IsFresh (record { image = image.items; script = script }) p → IsNumbered (length ps) budget p → Halfway budget images scripts (ps ++ p ∷ []) left others
    half_more p fresh numbered =
        (let s : Setup = record { image = image.items; script = script } in
        let new : IsAtMoment budget 0 (length ps) (record { setup = s; script = world_entries s.script.entries; used = []; seen = [] }) p = record { numbered = numbered; come = inr (fresh, refl, refl, refl, refl) } in
        let long : length (begun_pasts h.done) ≡ length ps = each_long (IsAtMoment budget 0) 0 (begun_pasts h.done) ps h.mounted in
        record {
          done = h.done ++ s ∷ [];
          mounted = subst (λ (hs : List Past). EachBoard (IsAtMoment budget 0) 0 hs (ps ++ p ∷ [])) (sym (begun_append h.done s)) (each_more (IsAtMoment budget 0) 0 (length ps) (begun_pasts h.done) ps _ p h.mounted (omega (arith, long)) new);
          all = append_assoc h.done (s ∷ []) (setups_of left others) ∙ h.all;
          few = (let f = h.few in let l = length-append ps (p ∷ []) in omega (arith, f, l));
          same = (let e = h.same in omega (arith, e));
          each = All-tail (λ (image : Vec ℕ Global). vec_len image ≤ flash_end) image left h.each;
          sound = All-tail IsSound script others h.sound;
        })

  none_made : (left : List (Vec ℕ Global)) (others : List Script) → length others ≡ 0 → setups_of left others ≡ []
  none_made [] others e = refl
  none_made (x ∷ xs) [] e = refl
  none_made (x ∷ xs) (y ∷ ys) e = absurd (omega (arith, e))

  pub half_done : (ps : List Player) (left : List (Vec ℕ Global)) (others : List Script) → Halfway budget images scripts ps left others → length others ≡ 0 → EachBoard (IsAtMoment budget 0) 0 (begun_pasts (setups_of images scripts)) ps
  half_done ps left others h e =
      subst (λ (ss : List Setup). EachBoard (IsAtMoment budget 0) 0 (begun_pasts ss) ps) (sym (append-nil h.done) ∙ ap (λ (l : List Setup). h.done ++ l) (sym (none_made left others e)) ∙ h.all) h.mounted
