-- `new` meets its contract: the test is called, and its answer decides whether the reference goes into a loan or is given up.
use Rattle.std.proofs.Common.{ℕ, ◌≡◌, ◌<◌, ◌^◌, Bool, IsTrue, List, [], ◌∷◌, length, refl, sym, ap, subst, lit<, w64}
use Rattle.std.proofs.raw_atomic.Walks.{proved, leaves}
use mir.Val.{Val}
use mir.Syntax.{named}
use base.Logic.{id⊢, emp}
use base.Fml.{ftrue, fres, fobs}
use contract.Monad.{fact, fact_i}
use contract.Running.{tables}
use types.Kit.{‵, raw, ◌⊛◌, some, later, at_ret, prop, Sq, ◌$◌, ◌∵◌, !, qed, by, move, drop, use0, use1, use2, split, join, fsplit, fjoin, feq_l, pick, await, rewrite}
use types.Run.{enter, of_opd, lit, addr, stop, fld, hop, no_more, and_then, returns, from, first, branches, exec}
use types.Part.{whole, sub, agg}
use types.ByLocal.{alloc_all, pass_all, free_all, look_at, look_in_at, get, get_in, sets, sets_last, lands_as, env}
use denote.Builtin.{u8, u64, usize, bool}
use denote.Exit.{yes, no}
use denote.Laws.{Is, shows}
use denote.Plain.{uint_vals, uint_Tells, uint_Makes}
use denote.RattleType.{owns}
use denote.Signature.{plain, named_lft, types_at, mut_slice_of}
use denote.Slice.{mut_slice_vals, mut_slice_Tells}
use denote.Steps.{nothing, owned, heard, peeks, only}
use denote.Triple.Call.{calls_at}
use denote.Triple.Clauses.{Lasts, lasts}
use denote.Triple.Entry.{alive}
use denote.Triple.Spec.{triple_of}
use denote.Triple.Table.{framed}
use denote.Triple.Walked.{Stays, walk_of, stay_dropped, Goes-dropped, Goes-spent_slice}
use denote.Enum.Laws.{makes}
use base.Stored.{coded_list}
use denote.FollowSlice.{heres_id}
use Rattle.std.proofs.lemmas.Bool.{false≢true}
use Rattle.std.specs.Borrow.{Array, RestsIfNone}
use Rattle.std.specs.Prelude.{Option, IsSome, IfSome, ◌↔◌}
use Rattle.std.specs.declared.option.Option.TheVariants.{None, Some}
use Rattle.std.specs.contracts.option.Option as O
use Rattle.dev_types.specs.Blocks.{FitsBlock}
use Rattle.dev_types.specs.contracts.data_types.DataType as D
use Rattle.dev_types.proofs.data_types.DataType.TheLaws as D'
use Rattle.byte_view.specs.Halves.{elements, borrow_of}
use Rattle.byte_view.specs.declared.writes.StridedMut.{StridedMut}
use Rattle.byte_view.specs.contracts.writes.StridedMut as S
use Rattle.byte_view.proofs.writes.StridedMut.TheLaws as S'
use Rattle.byte_view.specs.contracts.writes.StridedMut.new as f
use Rattle.byte_view.specs.contracts.writes.StridedMut.over as g
use Rattle.byte_view.specs.contracts.reads.fits_block as h
use Rattle.byte_view.proofs.writes.StridedMut.over.Met as gm
use Rattle.byte_view.proofs.reads.fits_block.Met as hm
use Rattle.byte_view.proofs.writes.StridedMut.new.Statement.{statement}
use Rattle.byte_view.proofs.writes.StridedMut.new.Code as code
use Rattle.byte_view.proofs.Loans.{type_typed, loan_typed}
use Rattle.byte_view.proofs.Options.{holds, fails, some_val, none_val, owned_some, owned_none, field_typed, rests, follows_loan}

abbrev stayed : Stays f.ended.signature.params f.ended.kept
stayed = (stay_dropped (mut_slice_of (0 ∷ []) tt (plain (λ _. u8))) no, (stay_dropped (plain (λ _. D.the_row)) yes, (stay_dropped (plain (λ _. u64)) yes, (stay_dropped (plain (λ _. u64)) yes, tt))))

pub new_spec : {M : Type 1} → statement M
new_spec 𝓤 𝓛 𝓜 𝓡 wired =
    let c = f.clauses 𝓛 𝓜.mem 𝓡.returns in
    let W = walk_of 𝓛 f.ended stayed c in
    let 𝓣 = tables 𝓤 𝓛.H 𝓜 𝓡 𝓡.env in
    let number = Goes-dropped 𝓛 1 (plain (λ _. u64)) yes (λ κs x w. refl) in
    proved 𝓛 f.ended stayed c 𝓜 𝓡
    (Goes-spent_slice 𝓛 1 (0 ∷ []) tt (plain (λ _. u8)), (Goes-dropped 𝓛 1 (plain (λ _. D.the_row)) yes (λ κs x w. refl), (number, (number, tt))))
    f.Key.name code.function (code.unfolded 𝓤 𝓛.H 𝓜 𝓡 wired)
    (λ κs. (mut_slice_vals, ((λ d. D'.lowered d ∷ []), (uint_vals w64, (uint_vals w64, tt))))) (λ κs. (mut_slice_Tells (named 0) κs.0 u8, (D'.lowers.val_is, (uint_Tells w64, (uint_Tells w64, tt)))))
    (λ κs qs bounds a _ are.
    let L = named_lft 1 0 tt κs in
    let ref = a.0 in
    let ty = a.1.0 in
    let stride = a.1.1.0 in
    let count = a.1.1.1.0 in
    let Fits : Type 0 = FitsBlock ty stride count (length ref.now) in
    let fits_all : length ref.now < 2 ^ 64 = are.0.0.1.0 in
    let typed_ty = (type_typed 𝓛 ty are.1.0).0 in
    let fits_stride : stride < 2 ^ 64 = are.1.1.0.1 in
    let fits_count : count < 2 ^ 64 = are.1.1.1.0.1 in
    let y : W.Ghost = ((κs, qs, bounds, a, (mut_slice_vals ref, (D'.lowered ty ∷ [], (uint_vals w64 stride, (uint_vals w64 count, tt))))), tt) in
    let G = triple_of 𝓛 h.signature (h.spec 𝓛 𝓜.mem 𝓡.returns) in
    let z : G.Ghost = ((tt, tt, tt, (ty, (stride, (count, (length ref.now, tt)))), (D'.lowered ty ∷ [], (uint_vals w64 stride, (uint_vals w64 count, (uint_vals w64 (length ref.now), tt))))), tt) in
    qed 𝓛 ((raw (alive 𝓛 f.signature κs qs) ⊛ ‵ (owns (types_at f.signature.params κs) a y.0.4)) ∷ ‵ ftrue ∷ []) ∵
    move ! (1 ∷ []) $ drop ! $ split ! $ move ! (1 ∷ []) $ fsplit ! $ move ! (1 ∷ []) $ drop ! $
    -- [the reference; the token]
    nothing ! $ owned ! usize (Is usize) (uint_Makes 𝓛 w64) (length ref.now) (uint_vals w64 (length ref.now)) (refl, fits_all) $ fjoin ! $
    owned ! u64 (Is u64) (uint_Makes 𝓛 w64) count (uint_vals w64 count) (refl, fits_count) $ fjoin ! $
    owned ! u64 (Is u64) (uint_Makes 𝓛 w64) stride (uint_vals w64 stride) (refl, fits_stride) $ fjoin ! $
    owned ! D.the_row (Is D.the_row) (makes D.the_type D'.the_plain 𝓛) ty (D'.lowered ty ∷ []) are.1.0 $ fjoin ! $
    nothing ! $ join ! $ nothing ! $ move ! (1 ∷ 0 ∷ []) $ use2 𝓛 (raw (G.pre z)) (id⊢ 𝓤 _) $
    enter ! _ _ _ _ _ $ alloc_all ! (λ l. pass_all ! refl ((tt, (tt, (record { fits = fits_all }, tt))), (typed_ty, ((tt, record { fits = fits_stride }), ((tt, record { fits = fits_count }), tt)))) $
    sets ! (of_opd ! (get_in ! (fld ! refl (stop !)) (sub ! 1 refl (whole !)))) refl (tt, record { fits = fits_all }) $
    calls_at ! (framed 𝓤 𝓛.H 𝓜 𝓣) G (hm.met 𝓤 𝓛 𝓜 𝓡 (code.calls-byte_view::reads::fits_block 𝓡.env wired)) z
    (and_then ! (get ! refl) (and_then ! (get ! refl) (and_then ! (get ! refl) (and_then ! (get ! refl) (no_more !))))) (λ u.
    use1 𝓛 (later (some (λ (b : Bool). (‵ ftrue ⊛ ‵ (bool.own_val b (u ∷ []))) ⊛
    some (λ (ws : Lasts h.ended tt z.0.3). ‵ (lasts h.ended tt z.0.3 ws) ⊛ raw (fact 𝓤 (IsTrue b ↔ Fits)))))) (id⊢ 𝓤 _) $
    await ! tt $ pick ! (λ b. split ! $ split ! $ drop ! $ feq_l ! (λ is_bool. pick ! (λ ws. split ! $ drop ! $ heard ! (IsTrue b ↔ Fits) (λ tested.
    lands_as ! (ap only is_bool) refl (tt, tt) $
    let Valid : Option StridedMut → Type 0 = λ o. IsSome o ↔ Fits in
    let Value : Option StridedMut → Type 0 = λ o. IfSome o (λ s. elements s ≡ record { ty = ty; stride = stride; count = count; bytes = ref.now }) in
    let Same : Option StridedMut → Type 0 = λ o. IfSome o (λ s. borrow_of s ≡ ref.ghost_name) in
    let out : (o : Option StridedMut) (v : Val) → Valid o → Value o → Same o
    → Sq 𝓛 (‵ ((O.the_row (S.the_row L)).own_val o (v ∷ [])) ∷ ‵ (RestsIfNone (Array u8 0) ref borrow_of o (λ last. last ≡ ref.now)) ∷ raw (alive 𝓛 f.signature κs qs) ∷ []) (prop (W.post y v)) =
    λ o v valid value same.
    move ! (1 ∷ []) $ use0 𝓛 (raw (fact 𝓤 (Same o))) (fact_i 𝓤 (Same o) (emp 𝓤) same) $ join ! $ use0 𝓛 (raw (fact 𝓤 (Value o))) (fact_i 𝓤 (Value o) (emp 𝓤) value) $ join ! $
    use0 𝓛 (raw (fact 𝓤 (Valid o))) (fact_i 𝓤 (Valid o) (emp 𝓤) valid) $ join ! $
    nothing ! $ nothing ! $ fjoin ! $ nothing ! $ fjoin ! $ nothing ! $ fjoin ! $ nothing ! $ fjoin ! $ move ! (3 ∷ 0 ∷ 2 ∷ 1 ∷ []) $
    by ! (leaves 𝓛 f.ended stayed c y v o (tt, (tt, (tt, (tt, tt)))) (tt, (tt, (tt, (tt, tt))))) in
    first ! $ branches ! (get ! refl)
    (λ yes_. let fits : Fits = tested.0 (holds b yes_) in
    let G₁ = triple_of 𝓛 g.signature (g.spec 𝓛 𝓜.mem 𝓡.returns) in
    let z₁ : G₁.Ghost = ((κs, qs, bounds, a, y.0.4), tt) in
    nothing ! $ owned ! u64 (Is u64) (uint_Makes 𝓛 w64) count (uint_vals w64 count) (refl, fits_count) $ fjoin ! $
    owned ! u64 (Is u64) (uint_Makes 𝓛 w64) stride (uint_vals w64 stride) (refl, fits_stride) $ fjoin ! $
    owned ! D.the_row (Is D.the_row) (makes D.the_type D'.the_plain 𝓛) ty (D'.lowered ty ∷ []) are.1.0 $ fjoin ! $
    move ! (1 ∷ 0 ∷ []) $ fjoin ! $ move ! (1 ∷ 0 ∷ []) $ join ! $
    use0 𝓛 (raw (fact 𝓤 Fits)) (fact_i 𝓤 Fits (emp 𝓤) fits) $ move ! (1 ∷ 0 ∷ []) $ use2 𝓛 (raw (G₁.pre z₁)) (id⊢ 𝓤 _) $
    sets ! (addr ! (from ! (fld ! refl (hop ! (look_in_at ! 1 (sub ! 0 refl (whole !))) (stop !))))) refl (tt, tt) $
    sets ! (agg ! (and_then ! (get ! refl) (and_then ! (get_in ! (fld ! refl (stop !)) (sub ! 1 refl (whole !))) (no_more !)))) refl (tt, (tt, (record { fits = fits_all }, tt))) $
    calls_at ! (framed 𝓤 𝓛.H 𝓜 𝓣) G₁ (gm.met 𝓤 𝓛 𝓜 𝓡 (code.calls-byte_view::writes::StridedMut::over 𝓡.env wired)) z₁
    (and_then ! (get ! refl) (and_then ! (get ! refl) (and_then ! (get ! refl) (and_then ! (get ! refl) (no_more !))))) (λ u₁.
    use1 𝓛 (later (some (λ (r : StridedMut). (raw (alive 𝓛 f.signature κs qs) ⊛ ‵ ((S.the_row L).own_val r (u₁ ∷ []))) ⊛
    some (λ (ws₁ : Lasts g.ended κs z₁.0.3). ‵ (lasts g.ended κs z₁.0.3 ws₁) ⊛ raw (fact 𝓤 (Value (Some r))) ⊛ raw (fact 𝓤 (Same (Some r))))))) (id⊢ 𝓤 _) $
    await ! tt $ pick ! (λ r. split ! $ split ! $ move ! (2 ∷ []) $ pick ! (λ ws₁. split ! $ drop ! $
    split ! $ heard ! (Value (Some r)) (λ value. heard ! (Same (Some r)) (λ same.
    move ! (1 ∷ []) $ peeks ! (S.the_row L) (Is (S.the_row L)) (shows 𝓛 (S.the_row L)) r (u₁ ∷ []) (λ is.
    let is_u : u₁ ∷ [] ≡ S'.lowered r ∷ [] = (S'.lowers L).val_is r (u₁ ∷ []) is in
    let loan = subst (Is (S.the_row L) r) is_u is in
    rewrite ! 0 (λ (us : List Val). ‵ ((S.the_row L).own_val r us)) is_u refl $ lands_as ! (ap only is_u) refl (loan_typed L 𝓛 r loan).0 $
    sets_last ! (agg ! (and_then ! (lit ! tt) (and_then ! (get ! refl) (no_more !)))) refl (field_typed 𝓛 L r loan) $
    exec ! 𝓣.C 𝓣.Λ (env code.Mir.locals l) code.Mir.t-4 (at_ret _ (W.post y)) $
    sets ! (of_opd ! (get ! refl)) refl (field_typed 𝓛 L r loan) $
    returns ! (look_at ! 0 refl) $ free_all ! refl $
    use1 𝓛 (‵ ((O.the_row (S.the_row L)).own_val (Some r) (some_val (S'.lowered r) ∷ []))) (owned_some 𝓛 (S.the_row L) r (S'.lowered r)) $
    use0 𝓛 (‵ (RestsIfNone (Array u8 0) ref borrow_of (Some r) (λ last. last ≡ ref.now))) (follows_loan 𝓛 ref r (sym same)) $ move ! (1 ∷ 0 ∷ []) $
    out (Some r) (some_val (S'.lowered r)) (λ e. fits, λ e. refl) value same)))))))
    (λ no_. let apart : Fits → ⊥ = λ h. fails b no_ (tested.1 h) in
    fsplit ! $ drop ! $ fsplit ! $ rewrite ! 0 (λ (bs : List ℕ). ‵ (fobs ref.ghost_name ((coded_list u8.coded).code bs))) (heres_id u8 ref.now) refl $
    use1 𝓛 (‵ (fres ref.ghost_name ((coded_list u8.coded).code ref.now))) (𝓛.names.obs-res ref.ghost_name ((coded_list u8.coded).code ref.now)) $ move ! (1 ∷ []) $ drop ! $
    use1 𝓛 (‵ (RestsIfNone (Array u8 0) ref borrow_of None (λ last. last ≡ ref.now))) (rests 𝓛 ref) $
    sets_last ! (agg ! (and_then ! (lit ! tt) (no_more !))) refl (tt, (record { fits = lit< tt }, tt)) $
    exec ! 𝓣.C 𝓣.Λ (env code.Mir.locals l) code.Mir.t-4 (at_ret _ (W.post y)) $
    sets ! (of_opd ! (get ! refl)) refl (tt, (record { fits = lit< tt }, tt)) $
    returns ! (look_at ! 0 refl) $ free_all ! refl $
    use0 𝓛 (‵ ((O.the_row (S.the_row L)).own_val None (none_val ∷ []))) (owned_none 𝓛 (S.the_row L)) $
    out None none_val (λ e. absurd (false≢true e), λ h. absurd (apart h)) tt tt))))))))
