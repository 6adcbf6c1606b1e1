use Rattle.std.proofs.Common.{rules}
use Rattle.dev_types.specs.declared.data_types.DataType.TheVariants as ty
use Rattle.dev_types.specs.declared.values.Value.TheVariants as value
use Rattle.kind_tables.specs.SceneObjects.{with_value}
use Rattle.seq_model.specs.Steps.{end_parameter_loan, set_staged}
use Rattle.plain_objects.proofs.Entries.{taken_in}
use Rattle.plain_objects.proofs.stage.Stage.take_in.Goals as goal

pub returns-clause-ok : goal.returns-clause-ok
returns-clause-ok c =
    taken_in c.args.h (λ made. set_staged (with_value c.args.name.now (value.Object ty.Array1D made))) (end_parameter_loan c.args.number) c.args.array c.args.self.now
    c.reserve.new.self c.replace_loan.new.objects c.insert.new.self c.self.inside.stopped.items c.next-made.result
    (search rules) (search rules) (search rules) (search rules) (search rules) (search rules) (search rules) (search rules)
