use Rattle.std.proofs.Common.{refl, sym, append-nil, add-zero}
use Rattle.sts_syntax.specs.Types.{value_types}
use Rattle.typed_program.specs.Wholes as w
use Rattle.typed_program.proofs.build_program.add_class_item.Goals as goal

pub returns : goal.returns
returns c = λ at x base base_at.
    let old = c.args.whole.now in
    let h = c.in_ok-behind.ensures in
    record {
      stmts = sym (append-nil (w.typed_list old.stmts));
      locals = sym (append-nil (value_types old.builder.locals));
      routines = h.routines;
      local = sym (add-zero old.builder.local);
      function = h.function;
      class = refl;
      declaration = h.declaration;
    }
