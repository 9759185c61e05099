-- What the code's words for targets, pieces of work and a function's layout stand for.
use Rattle.std.specs.Prelude.{◌+◌, List, [], ◌∷◌, map}
use Rattle.sts_syntax.specs.BoardViews.{service_place}
use Rattle.sts_syntax.specs.TypedViews.{typed_tree, typed_trees, typed_statement, typed_statements, typed_declarations, class_entries}
use Rattle.sts_lower.specs.declared.work.Work as rust_work
use Rattle.sts_lower.specs.declared.work.Work.TheVariants as w
use Rattle.sts_lower.specs.declared.frame.Frame as rust_frame
use Rattle.sts_lower.specs.Repeated.{before}
use Rattle.sts_lower.specs.inner.Works.{Layout, Work, Put, Value, Reach, Arguments, Elements, Expand, ExpandAll, ExpandDeclarations}
use Rattle.sts_lower.specs.declared.targets.Target as rust
use Rattle.sts_lower.specs.declared.targets.Target.TheVariants as r
use Rattle.sts_lower.specs.Sizes.{Target, ToName, ToField, ToItem, ToNothing}

abbrev pub target_shown : rust.Target → Target
target_shown (r.Name x) = ToName x
target_shown (r.Field f) = ToField f
target_shown r.Item = ToItem
target_shown r.Nothing = ToNothing

-- a piece of work, and a stack of them
abbrev pub work_shown : rust_work.Work → Work
work_shown (w.Put op) = Put op
work_shown (w.Value a site) = Value (typed_tree a.now) site.d site.at site.next
work_shown (w.Reach x d at) = Reach (typed_tree x.now) d at
work_shown (w.Arguments places args d at) = Arguments (map service_place places.now) (typed_trees args.now) d at
work_shown (w.Elements items d at) = Elements (typed_trees items.now) d at
work_shown (w.Expand a course) = Expand (typed_statement a.now) course.at course.next course.out course.again
work_shown (w.ExpandAll all course) = ExpandAll (typed_statements all.now) course.at course.next course.out course.again
work_shown (w.ExpandDeclarations each at) = ExpandDeclarations (typed_declarations each.now) at

abbrev pub works : List rust_work.Work → List Work
works [] = []
works (v ∷ vs) = work_shown v ∷ works vs

-- what the code knows of a function
abbrev pub layout : rust_frame.Frame → Layout
layout f = record {
  classes = class_entries f.classes.now;
  repeating = λ g. f.functions + before f.repeated.now g;
  params = f.params;
  base = f.base;
  maker = f.maker;
}
