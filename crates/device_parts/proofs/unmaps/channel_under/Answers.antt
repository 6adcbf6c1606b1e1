use Rattle.std.proofs.Common.{◌≡◌, ◌==◌, ◌∙◌, ℕ, Bool, true, false, Option, Some, sym, ap, arith}
use Rattle.std.specs.Option.{option_eq}
use Rattle.dev_types.specs.declared.handles.Channel.{Channel}
use Rattle.dev_types.specs.declared.handles.Channel.TheVariants.{Color, PrimitiveId, ObjectId, InstanceId}
use Rattle.device_laws.specs.Lent.{loan_in}
use Rattle.device_parts.proofs.unmaps.channel_under.Goals as goal

-- a number that was not found is not that number
other : (x y : Option ℕ) (n : ℕ) (b : Bool) → x ≡ y → b ≡ option_eq (λ a c. a == c) x (Some n) → b ≡ false → y ≡ Some n → ⊥
other x y n b found is no_ same =
    let itself : (n == n) ≡ true = grind arith in
    let wrong : true ≡ false = sym itself ∙ ap (λ z. option_eq (λ a c. a == c) z (Some n)) (sym (found ∙ same)) ∙ sym is ∙ no_ in
    absurd cc

pub returns-clause-none : goal.returns-clause-none
returns-clause-none c = λ channel. by channel
  where
    by : (channel : Channel) → loan_in c.args.channels.now channel ≡ Some c.args.number → ⊥
    by Color is = other c.loan_in.result (loan_in c.args.channels.now Color) c.args.number c.eq.result c.loan_in.ensures c.eq.ensures c.if-eq.false is
    by PrimitiveId is = other c.loan_in-2.result (loan_in c.args.channels.now PrimitiveId) c.args.number c.eq-2.result c.loan_in-2.ensures c.eq-2.ensures c.if-eq-2.false is
    by ObjectId is = other c.loan_in-3.result (loan_in c.args.channels.now ObjectId) c.args.number c.eq-3.result c.loan_in-3.ensures c.eq-3.ensures c.if-eq-3.false is
    by InstanceId is = other c.loan_in-4.result (loan_in c.args.channels.now InstanceId) c.args.number c.eq-4.result c.loan_in-4.ensures c.eq-4.ensures c.if-eq-4.false is
