use Rattle.std.proofs.Common.{ℕ, ◌-◌, ◌≡◌, ◌<◌, ◌≤◌, ◌∙◌, inr, true, false, [], Some, ap, length, refl, subst, arith, sym}
use Rattle.std.specs.Option.{IfSome, IsSome, is_some, option_map}
use Rattle.dev_types.specs.Blocks.{FitsBlock}
use Rattle.handle_table.specs.HandleMaps.{value_at}
use Rattle.object_store.proofs.Counted.{none_by}
use Rattle.ref_counts.specs.CountMaps.{ChangesAt, named_at, public_at}
use Rattle.array_objects.specs.Stores.{Fits, IsOut, array_at, block_at}
use Rattle.dev_types.specs.Counting.{times}
use Rattle.seq_model.specs.State.{changed_at, object_at}
use Rattle.seq_model.specs.Steps.{change_array, holding}
use Rattle.object_store.specs.Kept.{Stored, stored}
use Rattle.object_store.specs.Moves.{Moves}
use Rattle.object_store.specs.Parts.{at, joined, named_in_block, with_content}
use Rattle.object_store.proofs.MoveFacts.{moves_unnamed}
use Rattle.object_store.proofs.Unmaps.{IsLent, count_by_block, fits_old, lent_by, new_names, no_object_is_out, not_out_in, old_are_named, old_names, out_in, parts_unmapped, still_named, stored_unmapped}
use Rattle.object_store.proofs.store.Store.unmap_array.Goals as goal

pub returns-then-not-is_there-clause-causes : goal.returns-then-not-is_there-clause-causes
returns-then-not-is_there-clause-causes c =
    inr (refl, no_object_is_out c.args.self.now c.self.inside.slots c.self.inside.arrays c.self.inside.counts c.self.inside.stopped c.args.lent.array c.args.lent.number (length c.args.content) c.self.view_is (none_by (value_at c.self.inside.slots c.args.lent.array) (sym (ap (λ h. is_some (value_at c.self.inside.slots h)) c.array-h.ensures) ∙ sym c.is_there.ensures ∙ c.if-not-is_there.true)))

pub returns-in-Err-clause-causes : goal.returns-in-Err-clause-causes
returns-in-Err-clause-causes c =
    inr (
      c.in-Err.ensures.cause,
      not_out_in c.args.self.now c.self.inside.slots c.self.inside.arrays c.self.inside.counts c.self.inside.stopped c.args.lent.array c.args.lent.number (length c.args.content) c.self.view_is
          (λ out. let wrong : false ≡ true = c.in-Err.ensures.out.1 (subst (λ n. IsOut (array_at c.self.inside.arrays c.args.lent.array) c.args.lent.number n) c.requires.length out) in cc),
    )

pub name_content-requires-clause-there : goal.name_content-requires-clause-there
name_content-requires-clause-there c =
    let out : IsOut (array_at c.self.inside.arrays c.args.lent.array) c.args.lent.number (length c.args.lent.elements.bytes) = c.in-Ok.ensures.out.0 refl in
    let is : IsLent c.self.inside.slots c.self.inside.arrays c.args.lent.array c.args.lent.number (length c.args.content) =
    lent_by c.self.inside.slots c.self.inside.arrays c.args.lent.array c.args.lent.number (length c.args.content) (sym (ap (λ h. is_some (value_at c.self.inside.slots h)) c.array-h.ensures) ∙ sym c.is_there.ensures ∙ c.if-not-is_there.false)
    (subst (λ n. IsOut (array_at c.self.inside.arrays c.args.lent.array) c.args.lent.number n) (sym c.requires.length) out) in
    let all : (k : ℕ) → 0 < times k (named_in_block (block_at c.unmap.new.self c.args.lent.array)) → IsSome (at k (joined c.self.inside.arrays c.self.inside.slots.entries)) =
    (λ k some.
    subst (λ (s : Stored). IsSome (object_at s.state k)) (sym c.self.view_is)
    (c.requires.named k (subst (λ names. 0 < times k names) (new_names c.self.inside.slots c.self.inside.arrays c.unmap.new.self c.self.inside.counts c.self.inside.bound c.args.lent.array c.args.lent.number (length c.args.content) c.args.content c.self.invariant is c.in-Ok.ensures.changes c.args.self.now c.self.inside.stopped c.self.view_is) some))) in
    λ k some. c.self.invariant.counted.there k (all k (subst (λ h. 0 < times k (named_in_block (block_at c.unmap.new.self h))) c.array-h.ensures some))

pub unname_content-requires-clause-fits : goal.unname_content-requires-clause-fits
unname_content-requires-clause-fits c =
    let out : IsOut (array_at c.self.inside.arrays c.args.lent.array) c.args.lent.number (length c.args.lent.elements.bytes) = c.in-Ok.ensures.out.0 refl in
    let is : IsLent c.self.inside.slots c.self.inside.arrays c.args.lent.array c.args.lent.number (length c.args.content) =
    lent_by c.self.inside.slots c.self.inside.arrays c.args.lent.array c.args.lent.number (length c.args.content) (sym (ap (λ h. is_some (value_at c.self.inside.slots h)) c.array-h.ensures) ∙ sym c.is_there.ensures ∙ c.if-not-is_there.false)
    (subst (λ n. IsOut (array_at c.self.inside.arrays c.args.lent.array) c.args.lent.number n) (sym c.requires.length) out) in
    subst (λ h. IfSome (block_at c.unmap.new.self h) (λ b. FitsBlock b.ty b.stride b.count (length c.in-Ok.old))) (sym c.array-h.ensures)
    (fits_old c.self.inside.slots c.self.inside.arrays c.unmap.new.self c.self.inside.counts c.self.inside.bound c.args.lent.array c.args.lent.number (length c.args.content) c.args.content c.self.invariant is c.in-Ok.ensures.changes c.in-Ok.old c.in-Ok.ensures.old (subst (λ h. IfSome (block_at c.self.inside.arrays h) Fits) c.array-h.ensures c.elements_len-count.ensures.fits))

pub unname_content-requires-clause-named : goal.unname_content-requires-clause-named
unname_content-requires-clause-named c =
    let out : IsOut (array_at c.self.inside.arrays c.args.lent.array) c.args.lent.number (length c.args.lent.elements.bytes) = c.in-Ok.ensures.out.0 refl in
    let is : IsLent c.self.inside.slots c.self.inside.arrays c.args.lent.array c.args.lent.number (length c.args.content) =
    lent_by c.self.inside.slots c.self.inside.arrays c.args.lent.array c.args.lent.number (length c.args.content) (sym (ap (λ h. is_some (value_at c.self.inside.slots h)) c.array-h.ensures) ∙ sym c.is_there.ensures ∙ c.if-not-is_there.false)
    (subst (λ n. IsOut (array_at c.self.inside.arrays c.args.lent.array) c.args.lent.number n) (sym c.requires.length) out) in
    λ k. subst (λ names. times k names ≤ named_at c.name_content.new.counts k) (sym (ap (λ h. named_in_block (option_map (with_content c.in-Ok.old) (block_at c.unmap.new.self h))) c.array-h.ensures ∙ old_names c.self.inside.slots c.self.inside.arrays c.unmap.new.self c.self.inside.counts c.self.inside.bound c.args.lent.array c.args.lent.number (length c.args.content) c.args.content c.self.invariant is c.in-Ok.ensures.changes c.in-Ok.old c.in-Ok.ensures.old)) (old_are_named c.self.inside.slots c.self.inside.arrays c.unmap.new.self c.self.inside.counts c.self.inside.bound c.args.lent.array c.args.lent.number (length c.args.content) c.args.content c.self.invariant is c.in-Ok.ensures.changes c.name_content.new.counts (subst (λ h. Moves c.self.inside.counts c.name_content.new.counts (named_in_block (block_at c.unmap.new.self h)) []) c.array-h.ensures c.name_content.ensures) k)

pub unname-requires : goal.unname-requires
unname-requires c =
    let out : IsOut (array_at c.self.inside.arrays c.args.lent.array) c.args.lent.number (length c.args.lent.elements.bytes) = c.in-Ok.ensures.out.0 refl in
    let is : IsLent c.self.inside.slots c.self.inside.arrays c.args.lent.array c.args.lent.number (length c.args.content) =
    lent_by c.self.inside.slots c.self.inside.arrays c.args.lent.array c.args.lent.number (length c.args.content) (sym (ap (λ h. is_some (value_at c.self.inside.slots h)) c.array-h.ensures) ∙ sym c.is_there.ensures ∙ c.if-not-is_there.false)
    (subst (λ n. IsOut (array_at c.self.inside.arrays c.args.lent.array) c.args.lent.number n) (sym c.requires.length) out) in
    record { named = subst (λ h. 1 ≤ named_at c.unname_content.new.counts h) (sym c.array-h.ensures) (still_named c.self.inside.slots c.self.inside.arrays c.unmap.new.self c.self.inside.counts c.self.inside.bound c.args.lent.array c.args.lent.number (length c.args.content) c.args.content c.self.invariant is c.in-Ok.ensures.changes c.name_content.new.counts (subst (λ h. Moves c.self.inside.counts c.name_content.new.counts (named_in_block (block_at c.unmap.new.self h)) []) c.array-h.ensures c.name_content.ensures) c.unname_content.new.counts (subst (λ gone. Moves c.name_content.new.counts c.unname_content.new.counts [] gone) (ap (λ h. named_in_block (option_map (with_content c.in-Ok.old) (block_at c.unmap.new.self h))) c.array-h.ensures ∙ old_names c.self.inside.slots c.self.inside.arrays c.unmap.new.self c.self.inside.counts c.self.inside.bound c.args.lent.array c.args.lent.number (length c.args.content) c.args.content c.self.invariant is c.in-Ok.ensures.changes c.in-Ok.old c.in-Ok.ensures.old) c.unname_content.ensures)) }

pub invariant_of-self-2 : goal.invariant_of-self-2
invariant_of-self-2 c =
    let out : IsOut (array_at c.self.inside.arrays c.args.lent.array) c.args.lent.number (length c.args.lent.elements.bytes) = c.in-Ok.ensures.out.0 refl in
    let is : IsLent c.self.inside.slots c.self.inside.arrays c.args.lent.array c.args.lent.number (length c.args.content) =
    lent_by c.self.inside.slots c.self.inside.arrays c.args.lent.array c.args.lent.number (length c.args.content) (sym (ap (λ h. is_some (value_at c.self.inside.slots h)) c.array-h.ensures) ∙ sym c.is_there.ensures ∙ c.if-not-is_there.false)
    (subst (λ n. IsOut (array_at c.self.inside.arrays c.args.lent.array) c.args.lent.number n) (sym c.requires.length) out) in
    parts_unmapped c.self.inside.slots c.self.inside.arrays c.unmap.new.self c.self.inside.counts c.self.inside.bound c.args.lent.array c.args.lent.number (length c.args.content) c.args.content c.self.invariant is c.in-Ok.ensures.changes c.name_content.new.counts (subst (λ h. Moves c.self.inside.counts c.name_content.new.counts (named_in_block (block_at c.unmap.new.self h)) []) c.array-h.ensures c.name_content.ensures) c.unname_content.new.counts (subst (λ gone. Moves c.name_content.new.counts c.unname_content.new.counts [] gone) (ap (λ h. named_in_block (option_map (with_content c.in-Ok.old) (block_at c.unmap.new.self h))) c.array-h.ensures ∙ old_names c.self.inside.slots c.self.inside.arrays c.unmap.new.self c.self.inside.counts c.self.inside.bound c.args.lent.array c.args.lent.number (length c.args.content) c.args.content c.self.invariant is c.in-Ok.ensures.changes c.in-Ok.old c.in-Ok.ensures.old) c.unname_content.ensures)
    c.unname.new.self (moves_unnamed c.unname_content.new.counts c.unname.new.self c.args.lent.array
    (subst (λ h. ChangesAt c.unname_content.new.counts c.unname.new.self h (Some (public_at c.unname_content.new.counts h, named_at c.unname_content.new.counts h - 1))) c.array-h.ensures c.unname.ensures.changes)
    (still_named c.self.inside.slots c.self.inside.arrays c.unmap.new.self c.self.inside.counts c.self.inside.bound c.args.lent.array c.args.lent.number (length c.args.content) c.args.content c.self.invariant is c.in-Ok.ensures.changes c.name_content.new.counts (subst (λ h. Moves c.self.inside.counts c.name_content.new.counts (named_in_block (block_at c.unmap.new.self h)) []) c.array-h.ensures c.name_content.ensures) c.unname_content.new.counts (subst (λ gone. Moves c.name_content.new.counts c.unname_content.new.counts [] gone) (ap (λ h. named_in_block (option_map (with_content c.in-Ok.old) (block_at c.unmap.new.self h))) c.array-h.ensures ∙ old_names c.self.inside.slots c.self.inside.arrays c.unmap.new.self c.self.inside.counts c.self.inside.bound c.args.lent.array c.args.lent.number (length c.args.content) c.args.content c.self.invariant is c.in-Ok.ensures.changes c.in-Ok.old c.in-Ok.ensures.old) c.unname_content.ensures)))
    (λ k some.
    subst (λ (s : Stored). IsSome (object_at s.state k)) (sym c.self.view_is)
    (c.requires.named k (subst (λ names. 0 < times k names) (new_names c.self.inside.slots c.self.inside.arrays c.unmap.new.self c.self.inside.counts c.self.inside.bound c.args.lent.array c.args.lent.number (length c.args.content) c.args.content c.self.invariant is c.in-Ok.ensures.changes c.args.self.now c.self.inside.stopped c.self.view_is) some))) c.elements_len-count.result
    (count_by_block c.self.inside.slots c.self.inside.arrays c.unmap.new.self c.self.inside.counts c.self.inside.bound c.args.lent.array c.args.lent.number (length c.args.content) c.args.content c.self.invariant is c.in-Ok.ensures.changes c.elements_len-count.result (subst (λ h. IfSome (block_at c.self.inside.arrays h) (λ b. c.elements_len-count.result ≡ b.count)) c.array-h.ensures c.elements_len-count.ensures.count))
    (omega (arith, c.if-count-gt-MOST_NAMES.false, c.if-self-gt-MOST_NAMES.false))

pub returns-clause-ok : goal.returns-clause-ok
returns-clause-ok c =
    let out : IsOut (array_at c.self.inside.arrays c.args.lent.array) c.args.lent.number (length c.args.lent.elements.bytes) = c.in-Ok.ensures.out.0 refl in
    let is : IsLent c.self.inside.slots c.self.inside.arrays c.args.lent.array c.args.lent.number (length c.args.content) =
    lent_by c.self.inside.slots c.self.inside.arrays c.args.lent.array c.args.lent.number (length c.args.content) (sym (ap (λ h. is_some (value_at c.self.inside.slots h)) c.array-h.ensures) ∙ sym c.is_there.ensures ∙ c.if-not-is_there.false)
    (subst (λ n. IsOut (array_at c.self.inside.arrays c.args.lent.array) c.args.lent.number n) (sym c.requires.length) out) in
    subst (λ (s : Stored). stored c.self.inside.slots c.unmap.new.self c.unname.new.self c.self.inside.stopped ≡ record s { state = changed_at c.args.lent.array (change_array (holding c.args.content)) s.state }) c.self.view_is
    (stored_unmapped c.self.inside.slots c.self.inside.arrays c.unmap.new.self c.self.inside.counts c.self.inside.bound c.args.lent.array c.args.lent.number (length c.args.content) c.args.content c.self.invariant is c.in-Ok.ensures.changes c.name_content.new.counts (subst (λ h. Moves c.self.inside.counts c.name_content.new.counts (named_in_block (block_at c.unmap.new.self h)) []) c.array-h.ensures c.name_content.ensures) c.unname_content.new.counts (subst (λ gone. Moves c.name_content.new.counts c.unname_content.new.counts [] gone) (ap (λ h. named_in_block (option_map (with_content c.in-Ok.old) (block_at c.unmap.new.self h))) c.array-h.ensures ∙ old_names c.self.inside.slots c.self.inside.arrays c.unmap.new.self c.self.inside.counts c.self.inside.bound c.args.lent.array c.args.lent.number (length c.args.content) c.args.content c.self.invariant is c.in-Ok.ensures.changes c.in-Ok.old c.in-Ok.ensures.old) c.unname_content.ensures)
    c.unname.new.self (moves_unnamed c.unname_content.new.counts c.unname.new.self c.args.lent.array
    (subst (λ h. ChangesAt c.unname_content.new.counts c.unname.new.self h (Some (public_at c.unname_content.new.counts h, named_at c.unname_content.new.counts h - 1))) c.array-h.ensures c.unname.ensures.changes)
    (still_named c.self.inside.slots c.self.inside.arrays c.unmap.new.self c.self.inside.counts c.self.inside.bound c.args.lent.array c.args.lent.number (length c.args.content) c.args.content c.self.invariant is c.in-Ok.ensures.changes c.name_content.new.counts (subst (λ h. Moves c.self.inside.counts c.name_content.new.counts (named_in_block (block_at c.unmap.new.self h)) []) c.array-h.ensures c.name_content.ensures) c.unname_content.new.counts (subst (λ gone. Moves c.name_content.new.counts c.unname_content.new.counts [] gone) (ap (λ h. named_in_block (option_map (with_content c.in-Ok.old) (block_at c.unmap.new.self h))) c.array-h.ensures ∙ old_names c.self.inside.slots c.self.inside.arrays c.unmap.new.self c.self.inside.counts c.self.inside.bound c.args.lent.array c.args.lent.number (length c.args.content) c.args.content c.self.invariant is c.in-Ok.ensures.changes c.in-Ok.old c.in-Ok.ensures.old) c.unname_content.ensures))) c.self.inside.stopped)

pub returns-clause-out : goal.returns-clause-out
returns-clause-out c =
    let out : IsOut (array_at c.self.inside.arrays c.args.lent.array) c.args.lent.number (length c.args.lent.elements.bytes) = c.in-Ok.ensures.out.0 refl in
    let is : IsLent c.self.inside.slots c.self.inside.arrays c.args.lent.array c.args.lent.number (length c.args.content) =
    lent_by c.self.inside.slots c.self.inside.arrays c.args.lent.array c.args.lent.number (length c.args.content) (sym (ap (λ h. is_some (value_at c.self.inside.slots h)) c.array-h.ensures) ∙ sym c.is_there.ensures ∙ c.if-not-is_there.false)
    (subst (λ n. IsOut (array_at c.self.inside.arrays c.args.lent.array) c.args.lent.number n) (sym c.requires.length) out) in
    out_in c.args.self.now c.self.inside.slots c.self.inside.arrays c.self.inside.counts c.self.inside.stopped c.args.lent.array c.args.lent.number (length c.args.content) c.self.view_is is
