-- Boards of a class that are made ready, and their run.
use Rattle.std.proofs.Common.{◌≡◌, ◌≤◌, ◌<◌, ◌+◌, ℕ, List, [], ◌∷◌, ◌++◌, length, map, inl, inr, refl, sym, ap, ◌∙◌, subst, arith, rules, length-append, take, drop, get_or}
use Rattle.std.specs.Prelude.{Option, Ok, vec_len, All}
use Rattle.std.specs.declared.vec.Vec.{Vec}
use Rattle.std.specs.declared.alloc.Global.{Global}
use Rattle.std.proofs.lemmas.List.{take_more, drop_more, length-take-le, take-append-drop}
use Rattle.std.proofs.lemmas.List.Elements.{All-push}
use Rattle.sts_base.specs.Faults.{Rose}
use Rattle.thumb_code.specs.Map.{flash_end}
use Rattle.board_world.specs.Observations.{ByteList}
use Rattle.board_world.specs.Board.{Board}
use Rattle.board_world.specs.Simulation.{Paired}
use Rattle.bank_model.specs.Fibers.{Fiber, Shared}
use Rattle.sts_implements.specs.Images.{instructions_of_a_step}
use Rattle.event_script.specs.declared.script.Script.{Script}
use Rattle.event_script.specs.Sound.{IsSound}
use Rattle.event_script.specs.Verdict.{Tells}
use Rattle.event_script.specs.World.{world_entries}
use Rattle.class_file.specs.declared.class.Names.{Names}
use Rattle.class_file.specs.declared.class.ClassFile.{ClassFile}
use Rattle.class_world.specs.Classes as world
use Rattle.class_world.specs.Implementing.{MemberImplements}
use Rattle.class_steps.specs.Texts.{HasWholeText, HasSpentText, IsTextOf, boards_now}
use Rattle.class_meaning.proofs.Laws.{means_whole, means_cut}
use Rattle.class_radio.specs.Playing.{Setup, member_of}
use Rattle.class_radio.specs.Outcome.{setups_of, members_of, class_of_parts, is_panic, how_many_end, IsDone, HasSpent, IsStopped, RanClass}
use Rattle.class_radio.specs.declared.run.ClassEnd.{ClassEnd}
use Rattle.class_radio.specs.declared.run.ClassEnd.TheVariants as end
use Rattle.run_tool.specs.declared.ending.Status.TheVariants.{OutOfBudget}
use Rattle.run_tool.specs.declared.ending.Ending.TheVariants.{Gave, Cut}
use Rattle.run_tool.specs.declared.class_boards.Boards.{Boards}
use Rattle.run_tool.specs.declared.fetched.Fetched.TheVariants.{Text}
use Rattle.run_tool.specs.Answers.{Answer, says}
use Rattle.run_tool.specs.Files.{ToldFiles}
use Rattle.run_tool.specs.inner.{GivesOneOf, none_to_read, IsSourceOf, HasAdded, AreReady, ending_of_class}
use Rattle.run_tool.specs.ClassBoards.{BoardSource, OverBoard, OverBoards}
use Rattle.run_tool.specs.Class.{source_member, IsBuiltAs, ImagesRun, status_by, RunsWhole, RunsCut, RunsClass}
use Rattle.run_tool.proofs.Readings.{IsOnward, fetch-onwards, text-kept}
use Rattle.run_tool.proofs.ClassAnswers.{boards-stop, board-onwards, source-onwards}

-- ---- more boards

-- lists that are related, with one more
paired-push : {X Y : Type 0} (R : X → Y → Type 0) (xs : List X) (ys : List Y) (x : X) (y : Y) → Paired R xs ys → R x y → Paired R (xs ++ x ∷ []) (ys ++ y ∷ [])
paired-push R [] [] x y p r = (r, tt)
paired-push R [] (b ∷ ys) x y p r = absurd p
paired-push R (a ∷ xs) [] x y p r = absurd p
paired-push R (a ∷ xs) (b ∷ ys) x y p r = (p.0, paired-push R xs ys x y p.1 r)

pub paired-so : {X Y : Type 0} (R Q : X → Y → Type 0) → ((x : X) (y : Y) → R x y → Q x y) → (xs : List X) (ys : List Y) → Paired R xs ys → Paired Q xs ys
paired-so R Q f [] [] p = tt
paired-so R Q f [] (y ∷ ys) p = absurd p
paired-so R Q f (x ∷ xs) [] p = absurd p
paired-so R Q f (x ∷ xs) (y ∷ ys) p = (f x y p.0, paired-so R Q f xs ys p.1)

setups-push : (images : List (Vec ℕ Global)) (scripts : List Script) (image : Vec ℕ Global) (script : Script) → length scripts ≡ length images
    → setups_of (images ++ image ∷ []) (scripts ++ script ∷ []) ≡ setups_of images scripts ++ record { image = image.items; script = script } ∷ []
setups-push [] [] image script e = refl
setups-push [] (s ∷ scripts) image script e = absurd (omega (arith, e))
setups-push (i ∷ images) [] image script e = absurd (omega (arith, e))
setups-push (i ∷ images) (s ∷ scripts) image script e = ap (λ (xs : List Setup). record { image = i.items; script = s } ∷ xs) (setups-push images scripts image script (omega (arith, e)))

module _ (before mid now : ToldFiles) (until : ℕ) (was : IsOnward before now) (on : IsOnward mid now) where
  -- one more is ready, where the folder tells the same and failed no less
  pub one-more : (names : List Names) (n : Names) (old new : Boards) → AreReady before until names old → HasAdded mid until n old new → AreReady now until (names ++ n ∷ []) new
  one-more names n old new r h =
      (let b = h.built.2 in
      let board : BoardSource = record { program = b.program; tables = b.tables; script = h.script } in
      let source : IsSourceOf now until n board = record {
        program = (h.built.0, fetch-onwards mid now n.program (Text h.built.0) on h.built.1, b.accepted);
        script = text-kept mid now on n.script (λ text. Tells text (Ok h.script)) h.read;
        ends = h.ends;
      } in
      let fits : vec_len h.image ≤ flash_end = (let room = b.room in search rules) in
      let made : IsBuiltAs board (record { image = h.image.items; script = h.script }) = record { is_image = h.flashed; built = b.built; script = refl } in
      let as_many : length old.scripts.items ≡ length old.images.items = r.can_run.as_many in
      let setups : setups_of new.images.items new.scripts.items ≡ setups_of old.images.items old.scripts.items ++ record { image = h.image.items; script = h.script } ∷ [] =
      ap (λ (xs : List (Vec ℕ Global)). setups_of xs new.scripts.items) h.images ∙ ap (λ (ys : List Script). setups_of (old.images.items ++ h.image ∷ []) ys) h.scripts
      ∙ setups-push old.images.items old.scripts.items h.image h.script as_many in
      let images : length new.images.items ≡ length old.images.items + 1 = ap length h.images ∙ length-append old.images.items (h.image ∷ []) in
      let scripts : length new.scripts.items ≡ length old.scripts.items + 1 = ap length h.scripts ∙ length-append old.scripts.items (h.script ∷ []) in
      let more : length (names ++ n ∷ []) ≡ length names + 1 = length-append names (n ∷ []) in
      let were : length old.images.items ≡ length names = r.as_many in
      record {
        sources = r.sources ++ board ∷ [];
        are = paired-push (IsSourceOf now until) names r.sources n board (paired-so (IsSourceOf before until) (IsSourceOf now until) (source-onwards before now until was) names r.sources r.are) source;
        made = subst (λ (xs : List Setup). Paired IsBuiltAs (r.sources ++ board ∷ []) xs) (sym setups) (paired-push IsBuiltAs r.sources (setups_of old.images.items old.scripts.items) board _ r.made made);
        as_many = omega (arith, images, more, were);
        can_run = record {
          as_many = omega (arith, images, scripts, as_many);
          fit = subst (λ (xs : List (Vec ℕ Global)). All (λ image. vec_len image ≤ flash_end) xs) (sym h.images) (All-push (λ (image : Vec ℕ Global). vec_len image ≤ flash_end) old.images.items h.image r.can_run.fit fits);
          sound = subst (λ (xs : List Script). All IsSound xs) (sym h.scripts) (All-push IsSound old.scripts.items h.script r.can_run.sound h.sound);
          ends = subst (λ (xs : List Script). All (λ (s : Script). s.end ≡ until) xs) (sym h.scripts) (All-push (λ (s : Script). s.end ≡ until) old.scripts.items h.script r.can_run.ends h.ends);
        };
      })

-- none are ready at first
pub none-ready : (files : ToldFiles) (until : ℕ) (boards : Boards) → boards.images.items ≡ [] → boards.scripts.items ≡ [] → AreReady files until [] boards
none-ready files until boards e f = record {
  sources = [];
  are = tt;
  made = subst (λ (xs : List (Vec ℕ Global)). Paired IsBuiltAs [] (setups_of xs boards.scripts.items)) (sym e) tt;
  as_many = ap length e;
  can_run = record {
    as_many = ap length f ∙ sym (ap length e);
    fit = subst (λ (xs : List (Vec ℕ Global)). All (λ image. vec_len image ≤ flash_end) xs) (sym e) (λ k d l. absurd (omega (arith, l)));
    sound = subst (λ (xs : List Script). All IsSound xs) (sym f) (λ k d l. absurd (omega (arith, l)));
    ends = subst (λ (xs : List Script). All (λ (s : Script). s.end ≡ until) xs) (sym f) (λ k d l. absurd (omega (arith, l)));
  };
}

-- of a list of names, the first of which were read: the next one is ready too, or was answered
module _ (before mid now : ToldFiles) (until : ℕ) (was : IsOnward before now) (on : IsOnward mid now)
    (names : List Names) (at : ℕ) (n : Names) (boards : Boards) (r : AreReady before until (take at names) boards) (l : at < length names) (is : n ≡ get_or names at n) where
  pub next-ready : (new : Boards) → HasAdded mid until n boards new → AreReady now until (take (at + 1) names) new
  next-ready new h =
      (let e : take (at + 1) names ≡ take at names ++ n ∷ [] = take_more names at n l ∙ ap (λ (x : Names). take at names ++ x ∷ []) (sym is) in
      subst (λ (ns : List Names). AreReady now until ns new) (sym e) (one-more before mid now until was on (take at names) n boards new r h))

  pub next-answered : (answer : Answer) → OverBoard mid until at n none_to_read answer → OverBoards now until 0 names none_to_read answer
  next-answered answer h =
      (let done = take at names in
      let many : at ≡ length done = sym (length-take-le at names (omega (arith, l))) in
      let e : done ++ n ∷ drop (at + 1) names ≡ names =
      ap (λ (x : Names). done ++ x ∷ drop (at + 1) names) is ∙ (ap (λ (ns : List Names). done ++ ns) (sym (drop_more names at n l)) ∙ take-append-drop at names) in
      subst (λ (ns : List Names). OverBoards now until 0 ns none_to_read answer) e
      (boards-stop now until at done n (drop (at + 1) names) r.sources none_to_read answer many
      (paired-so (IsSourceOf before until) (IsSourceOf now until) (source-onwards before now until was) done r.sources r.are)
      (board-onwards mid now until on at n none_to_read answer h)))

-- ---- their run

-- a board's source and its image
member-implements : (s : BoardSource) (setup : Setup) (free : List ℕ) → IsBuiltAs s setup → MemberImplements instructions_of_a_step (source_member s) (member_of setup free)
member-implements s setup free m = record { implements = m.built.implements free; script = ap (λ (x : Script). world_entries x.entries) (sym m.script) }

members-implement : (sources : List BoardSource) (setups : List Setup) (frees : List (List ℕ)) → Paired IsBuiltAs sources setups → Paired (MemberImplements instructions_of_a_step) (map source_member sources) (members_of setups frees)
members-implement [] [] frees p = tt
members-implement [] (x ∷ setups) frees p = absurd p
members-implement (s ∷ sources) [] frees p = absurd p
members-implement (s ∷ sources) (x ∷ setups) [] p = (member-implements s x [] p.0, members-implement sources setups [] p.1)
members-implement (s ∷ sources) (x ∷ setups) (free ∷ frees) p = (member-implements s x free p.0, members-implement sources setups frees p.1)

module _ (class : ClassFile) (sources : List BoardSource) (setups : List Setup) (made : Paired IsBuiltAs sources setups) (budget : ℕ) where
  abbrev Below : List (List ℕ) → world.Class Fiber Shared
  Below frees = class_of_parts setups class.lose class.end frees

  -- so runs the class of their images
  images-run : (frees : List (List ℕ)) (runs : world.Class Fiber Shared → Type 0) → runs (Below frees) → ImagesRun class sources runs
  images-run frees runs h = record { setups = setups; built = made; frees = frees; run = h }

  -- a text of the images' class is one of the sources'
  whole-text : (frees : List (List ℕ)) (text : ByteList) (w : HasWholeText (Below frees) budget text) → RunsWhole class sources budget (says (status_by (how_many_end is_panic (boards_now class.end w.runs))) text)
  whole-text frees text w =
      (let m = means_whole instructions_of_a_step (map source_member sources) (Below frees) budget text (members-implement sources setups frees made) w in
      record { text = text; has = m.has; images = images-run frees (λ C. HasWholeText C budget text) w; is = ap (λ (bs : List Board). says (status_by (how_many_end is_panic bs)) text) (sym m.same) })

  cut-text : (frees : List (List ℕ)) (text : ByteList) → HasSpentText (Below frees) budget text → RunsCut class sources budget (says OutOfBudget text)
  cut-text frees text c =
      record { text = text; has = means_cut instructions_of_a_step (map source_member sources) (Below frees) budget text (members-implement sources setups frees made) c; images = images-run frees (λ C. HasSpentText C budget text) c; is = refl }

  module _ {S : Type 0} (taken : S → Option (List ℕ)) (faults : S → ℕ) (old new : S) (later : faults old ≤ faults new) where
    done : (panics stops : ℕ) → IsDone setups class.lose class.end budget panics stops (taken old) (taken new) → GivesOneOf taken faults old new (RunsClass class sources budget) (Gave (status_by panics))
    done panics stops d = record {
      ends = (d.text, subst (λ n. RunsClass class sources budget (says (status_by n) d.text)) (sym d.panicked) (inl (whole-text d.frees d.text d.has)), d.written);
      later = later;
      cut = λ e. absurd (cc);
    }

    spent : (number : ℕ) → HasSpent setups class.lose class.end budget number (taken old) (taken new) → GivesOneOf taken faults old new (RunsClass class sources budget) (Gave OutOfBudget)
    spent number d = record { ends = (d.text, inr (cut-text d.frees d.text d.has), d.written); later = later; cut = λ e. absurd (cc) }

    stopped : IsStopped setups class.lose class.end budget (taken old) (taken new) → Rose (faults old) (faults new) → GivesOneOf taken faults old new (RunsClass class sources budget) Cut
    stopped d rose = by_text d.is
      where
        by_text : IsTextOf (Below d.frees) budget d.text → GivesOneOf taken faults old new (RunsClass class sources budget) Cut
        by_text (inl w) = record { ends = (status_by (how_many_end is_panic (boards_now class.end w.runs)), d.text, inl (whole-text d.frees d.text w), d.written); later = later; cut = λ e. rose }
        by_text (inr w) = record { ends = (OutOfBudget, d.text, inr (cut-text d.frees d.text w), d.written); later = later; cut = λ e. rose }

    pub class-ends : (e : ClassEnd) → RanClass setups class.lose class.end budget (taken old) (taken new) (faults old) (faults new) e → GivesOneOf taken faults old new (RunsClass class sources budget) (ending_of_class e)
    class-ends (end.Done panics stops) r = done panics stops r
    class-ends (end.Budget number) r = spent number r
    class-ends end.SinkFault r = stopped r.0 r.1
