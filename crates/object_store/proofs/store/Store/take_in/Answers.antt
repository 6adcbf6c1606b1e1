use Rattle.std.proofs.Common.{ℕ, ◌-◌, ◌≡◌, ◌∙◌, List, [], ◌∷◌, ◌++◌, false, ap, refl, subst, arith, sym}
use Rattle.std.specs.BTreeMap.{is_at}
use Rattle.std.specs.Map.{set_value}
use Rattle.std.specs.Option.{IsSome}
use Rattle.std.specs.Ordering.{nat_cmp}
use Rattle.dev_types.specs.declared.data_types.DataType.TheVariants as ty
use Rattle.dev_types.specs.declared.values.Value.TheVariants as value
use Rattle.kind_tables.specs.SceneObjects.{with_value}
use Rattle.seq_model.specs.State.{changed_at, object_at, with_object}
use Rattle.seq_model.specs.Steps.{end_parameter_loan, set_staged}
use Rattle.object_store.specs.Kept.{Stored, number_at}
use Rattle.object_store.specs.Parts.{array_of}
use Rattle.object_store.proofs.TakenIn.{changes_before, no_next_object, no_next_public, no_reference, one_reference, still_there}
use Rattle.object_store.proofs.store.Store.take_in.Goals as goal

pub end_parameter_loan-requires : goal.end_parameter_loan-requires
end_parameter_loan-requires c =
    subst (λ (s : Stored). IsSome (object_at s.state c.args.h)) (sym c.in_ok-made.ensures.store)
    (still_there c.args.h (set_staged (with_value c.args.name.now (value.Object ty.Array1D c.args.self.now.state.next))) c.args.self.now.state (array_of c.args.block) c.requires.there (no_next_object c.args.self.now c.self.inside.slots c.self.inside.arrays c.self.inside.counts c.self.inside.stopped c.self.view_is c.self.invariant.rising))

pub release-requires : goal.release-requires
release-requires c =
    let public : c.end_parameter_loan.new.self.public ≡ (c.args.self.now.public ++ (c.args.self.now.state.next, 1) ∷ []) =
    ap (λ (s : Stored). s.public) c.end_parameter_loan.ensures ∙ ap (λ (s : Stored). s.public) c.in_ok-made.ensures.store in
    let one : number_at c.end_parameter_loan.new.self.public c.in_ok-made.made ≡ 1 =
    ap (λ (numbers : List (ℕ × ℕ)). number_at numbers c.in_ok-made.made) public ∙ ap (number_at (c.args.self.now.public ++ (c.args.self.now.state.next, 1) ∷ [])) c.in_ok-made.ensures.handle
    ∙ one_reference c.args.self.now.state.next c.args.self.now.public (no_next_public c.args.self.now c.self.inside.slots c.self.inside.arrays c.self.inside.counts c.self.inside.stopped c.self.view_is c.self.invariant.rising) in
    omega (arith, one)

pub returns-clause-store : goal.returns-clause-store
returns-clause-store c =
    c.release.ensures
    ∙ ap (λ (s : Stored). record s { public = set_value (is_at (nat_cmp c.in_ok-made.made)) s.public (number_at s.public c.in_ok-made.made - 1) })
    (c.end_parameter_loan.ensures ∙ ap (λ (s : Stored). record s { state = changed_at c.args.h (end_parameter_loan c.args.number) s.state }) c.in_ok-made.ensures.store)
    ∙ (λ i. record {
      state = state_ i;
      public = public_ i;
      holds = c.args.self.now.holds ++ (c.args.self.now.state.next, 0) ∷ [];
      ready = false;
      places = c.args.self.now.places;
    })
  where
    state_ : changed_at c.args.h (end_parameter_loan c.args.number) (changed_at c.args.h (set_staged (with_value c.args.name.now (value.Object ty.Array1D c.args.self.now.state.next))) (with_object (array_of c.args.block) c.args.self.now.state))
        ≡ with_object (array_of c.args.block) (changed_at c.args.h (set_staged (with_value c.args.name.now (value.Object ty.Array1D c.args.self.now.state.next))) (changed_at c.args.h (end_parameter_loan c.args.number) c.args.self.now.state))
    state_ = changes_before c.args.h (end_parameter_loan c.args.number) (set_staged (with_value c.args.name.now (value.Object ty.Array1D c.args.self.now.state.next))) c.args.self.now.state (array_of c.args.block) c.requires.there (no_next_object c.args.self.now c.self.inside.slots c.self.inside.arrays c.self.inside.counts c.self.inside.stopped c.self.view_is c.self.invariant.rising) (λ o. refl)

    public_ : set_value (is_at (nat_cmp c.in_ok-made.made)) (c.args.self.now.public ++ (c.args.self.now.state.next, 1) ∷ []) (number_at (c.args.self.now.public ++ (c.args.self.now.state.next, 1) ∷ []) c.in_ok-made.made - 1) ≡ c.args.self.now.public ++ (c.args.self.now.state.next, 0) ∷ []
    public_ = no_reference c.args.self.now.state.next c.in_ok-made.made c.args.self.now.public (no_next_public c.args.self.now c.self.inside.slots c.self.inside.arrays c.self.inside.counts c.self.inside.stopped c.self.view_is c.self.invariant.rising) c.in_ok-made.ensures.handle
