-- `split_at_mut` meets its contract: the reference is taken out of the loan, `split_block` cuts it, and a loan is made of
-- each part. What says that the block follows both parts is passed on as `split_block` gives it.
use Rattle.std.proofs.Common.{ℕ, ◌≡◌, ◌-◌, ◌<◌, ◌≤◌, ◌^◌, List, [], ◌∷◌, ◌++◌, length, take, drop as drop_l, refl, ap, ◌∙◌, subst, arith, w64, MutBor}
use Rattle.std.proofs.raw_atomic.Walks.{proved, leaves}
use mir.Val.{Val, vstruct, of_list}
use base.Logic.{id⊢, emp}
use contract.Monad.{fact, fact_i}
use contract.Running.{tables}
use types.Kit.{‵, raw, ◌⊛◌, some, later, ◌$◌, ◌∵◌, !, qed, by, move, keep, drop, use0, use1, use2, split, join, fsplit, fjoin, fpick, feq_l, pick, await, rewrite}
use types.Run.{enter, of_opd, bin, addr, stop, fld, hop, no_more, and_then, returns, from}
use types.Part.{whole, sub, agg}
use types.ByLocal.{alloc_all, pass_all, free_all, look_at, look_in_at, get, get_in, sets, lands_as}
use denote.Builtin.{u64}
use denote.Exit.{yes, no}
use denote.Laws.{Is, shows}
use denote.Plain.{uint_vals, uint_Tells, uint_Makes}
use denote.RattleType.{owns}
use denote.Signature.{plain, named_lft, types_at}
use denote.Slice.{mut_slice_vals, slice_val}
use denote.Steps.{nothing, owned, heard, peeks, only}
use denote.Triple.Call.{calls_at}
use denote.Struct.Tuple.{Tuple}
use denote.Triple.Clauses.{Lasts, lasts}
use denote.Triple.Entry.{alive}
use denote.Triple.Spec.{triple_of}
use denote.Triple.Table.{framed}
use denote.Triple.Walked.{Stays, walk_of, stay_dropped, Goes-dropped}
use denote.Enum.Laws.{makes}
use Rattle.dev_types.specs.Blocks.{FitsBlock}
use Rattle.dev_types.specs.contracts.data_types.DataType as D
use Rattle.dev_types.proofs.data_types.DataType.TheLaws as D'
use Rattle.std.specs.Borrow.{Array, follows_both, u8 as byte}
use Rattle.byte_view.specs.declared.writes.StridedMut.{StridedMut}
use Rattle.byte_view.specs.Elements.{cut_before, start_of}
use Rattle.byte_view.specs.Halves.{elements}
use Rattle.byte_view.specs.contracts.writes.StridedMut as S
use Rattle.byte_view.proofs.writes.StridedMut.TheLaws as S'
use Rattle.byte_view.specs.contracts.writes.StridedMut.split_at_mut as f
use Rattle.byte_view.specs.contracts.writes.split_block as g
use Rattle.byte_view.proofs.writes.split_block.Met.{met}
use Rattle.byte_view.proofs.writes.StridedMut.split_at_mut.Statement.{statement}
use Rattle.byte_view.proofs.writes.StridedMut.split_at_mut.Code as code
use Rattle.byte_view.proofs.Loans.{Bytes, type_typed, spent, parts_of, loan_of, loan_typed, taken_out, made_of, paired, pair_val, pair_typed}

abbrev stayed : Stays f.ended.signature.params f.ended.kept
stayed = (stay_dropped (plain (λ κs. S.the_row (named_lft 1 0 tt κs))) no, (stay_dropped (plain (λ _. u64)) yes, tt))

pub split_at_mut_spec : {M : Type 1} → statement M
split_at_mut_spec 𝓤 𝓛 𝓜 𝓡 wired =
    let c = f.clauses 𝓛 𝓜.mem 𝓡.returns in
    let W = walk_of 𝓛 f.ended stayed c in
    let G = triple_of 𝓛 g.signature (g.spec 𝓛 𝓜.mem 𝓡.returns) in
    proved 𝓛 f.ended stayed c 𝓜 𝓡
    (spent 𝓛, (Goes-dropped 𝓛 1 (plain (λ _. u64)) yes (λ κs x w. refl), tt))
    f.Key.name code.function (code.unfolded 𝓤 𝓛.H 𝓜 𝓡 wired)
    (λ κs. ((λ s. S'.lowered s ∷ []), (uint_vals w64, tt))) (λ κs. ((S'.lowers (named_lft 1 0 tt κs)).val_is, (uint_Tells w64, tt))) (λ κs qs bounds a _ are.
    let L = named_lft 1 0 tt κs in
    let s = a.0 in
    let i = a.1.0 in
    let known = parts_of L s (S'.lowered s ∷ []) are.0 in
    let fits_i : i < 2 ^ 64 = are.1.0.1 in
    let y : W.Ghost = ((κs, qs, bounds, a, (S'.lowered s ∷ [], (uint_vals w64 i, tt))), tt) in
    let z : G.Ghost = ((κs, qs, bounds, (s.bytes, (s.ty, (s.stride, (s.count, (i, tt))))), (mut_slice_vals s.bytes, (D'.lowered s.ty ∷ [], (uint_vals w64 s.stride, (uint_vals w64 s.count, (uint_vals w64 i, tt)))))), tt) in
    let Ref = Bytes L in
    let typed_ty = (type_typed 𝓛 s.ty known.1).0 in
    let cut : ℕ = cut_before s.stride s.count (length s.bytes.now) i in
    qed 𝓛 ((raw (alive 𝓛 f.signature κs qs) ⊛ ‵ (owns (types_at f.signature.params κs) a y.0.4)) ∷ raw (fact 𝓤 (i ≤ s.count)) ∷ []) ∵
    move ! (1 ∷ []) $ heard ! (i ≤ s.count) (λ within. split ! $ move ! (1 ∷ []) $ fsplit ! $
    use1 𝓛 (‵ (Ref.own_val s.bytes (mut_slice_vals s.bytes))) (taken_out L 𝓛 s (S'.lowered s ∷ [])) $ keep ! (0 ∷ 2 ∷ []) $
    -- what `split_block` asks: the token, its arguments and the two facts
    nothing ! $ owned ! u64 (Is u64) (uint_Makes 𝓛 w64) i (uint_vals w64 i) (refl, fits_i) $ fjoin ! $
    owned ! u64 (Is u64) (uint_Makes 𝓛 w64) s.count (uint_vals w64 s.count) (refl, known.3) $ fjoin ! $
    owned ! u64 (Is u64) (uint_Makes 𝓛 w64) s.stride (uint_vals w64 s.stride) (refl, known.2) $ fjoin ! $
    owned ! D.the_row (Is D.the_row) (makes D.the_type D'.the_plain 𝓛) s.ty (D'.lowered s.ty ∷ []) known.1 $ fjoin ! $
    move ! (1 ∷ 0 ∷ []) $ fjoin ! $ move ! (1 ∷ 0 ∷ []) $ join ! $
    use0 𝓛 (raw (fact 𝓤 (i ≤ s.count))) (fact_i 𝓤 (i ≤ s.count) (emp 𝓤) within) $
    use0 𝓛 (raw (fact 𝓤 (FitsBlock s.ty s.stride s.count (length s.bytes.now)))) (fact_i 𝓤 (FitsBlock s.ty s.stride s.count (length s.bytes.now)) (emp 𝓤) s.fits) $ join ! $
    move ! (1 ∷ 0 ∷ []) $ use2 𝓛 (raw (G.pre z)) (id⊢ 𝓤 _) $
    enter ! _ _ _ _ _ $ alloc_all ! (λ l. pass_all ! refl ((loan_typed L 𝓛 s are.0).0, ((tt, record { fits = fits_i }), tt)) $
    let fits_all : length s.bytes.now < 2 ^ 64 = known.0.0.1.0 in
    sets ! (of_opd ! (get_in ! (fld ! refl (stop !)) (sub ! 0 refl (whole !)))) refl (tt, (tt, (record { fits = fits_all }, tt))) $
    sets ! (of_opd ! (get_in ! (fld ! refl (stop !)) (sub ! 1 refl (whole !)))) refl typed_ty $
    sets ! (of_opd ! (get_in ! (fld ! refl (stop !)) (sub ! 2 refl (whole !)))) refl (tt, record { fits = known.2 }) $
    sets ! (of_opd ! (get_in ! (fld ! refl (stop !)) (sub ! 3 refl (whole !)))) refl (tt, record { fits = known.3 }) $
    sets ! (addr ! (from ! (fld ! refl (hop ! (look_in_at ! 3 (sub ! 0 refl (whole !))) (stop !))))) refl (tt, tt) $
    sets ! (agg ! (and_then ! (get ! refl) (and_then ! (get_in ! (fld ! refl (stop !)) (sub ! 1 refl (whole !))) (no_more !)))) refl (tt, (tt, (record { fits = fits_all }, tt))) $
    calls_at ! (framed 𝓤 𝓛.H 𝓜 (tables 𝓤 𝓛.H 𝓜 𝓡 𝓡.env)) G (met 𝓤 𝓛 𝓜 𝓡 (code.calls-byte_view::writes::split_block 𝓡.env wired)) z
    (and_then ! (get ! refl) (and_then ! (get ! refl) (and_then ! (get ! refl) (and_then ! (get ! refl) (and_then ! (get ! refl) (no_more !)))))) (λ v.
    use1 𝓛 (later (some (λ (r : MutBor (List ℕ) × MutBor (List ℕ)). (raw (alive 𝓛 g.signature κs qs) ⊛ ‵ ((Tuple (Ref ∷ Ref ∷ [])).own_val r (v ∷ []))) ⊛
    some (λ (ws : Lasts g.ended κs z.0.3). ‵ (lasts g.ended κs z.0.3 ws) ⊛
    raw (fact 𝓤 (r.0.now ≡ take cut s.bytes.now)) ⊛ raw (fact 𝓤 (r.1.now ≡ drop_l cut s.bytes.now)) ⊛
    raw (fact 𝓤 (FitsBlock s.ty s.stride i (length r.0.now))) ⊛ raw (fact 𝓤 (FitsBlock s.ty s.stride (s.count - i) (length r.1.now))) ⊛
    ‵ (follows_both (Array byte 0) (Array byte 0) (Array byte 0) s.bytes.ghost_name r.0.ghost_name r.1.ghost_name ◌++◌))))) (id⊢ 𝓤 _) $
    await ! tt $ pick ! (λ r. split ! $ split ! $ move ! (2 ∷ []) $ pick ! (λ ws. split ! $ drop ! $
    split ! $ heard ! (r.0.now ≡ take cut s.bytes.now) (λ front. split ! $ heard ! (r.1.now ≡ drop_l cut s.bytes.now) (λ back.
    split ! $ heard ! (FitsBlock s.ty s.stride i (length r.0.now)) (λ front_fits. split ! $ heard ! (FitsBlock s.ty s.stride (s.count - i) (length r.1.now)) (λ back_fits.
    -- [what the block follows; the token; the two parts]
    move ! (2 ∷ []) $ fpick ! (λ vss. fsplit ! $ feq_l ! (λ e. fsplit ! $
    peeks ! Ref (Is Ref) (shows 𝓛 Ref) r.0 vss.0 (λ is₀. rewrite ! 0 (λ (us : List Val). ‵ (Ref.own_val r.0 us)) is₀.0.0 refl $ move ! (1 ∷ []) $ fsplit ! $
    peeks ! Ref (Is Ref) (shows 𝓛 Ref) r.1 vss.1.0 (λ is₁. rewrite ! 0 (λ (us : List Val). ‵ (Ref.own_val r.1 us)) is₁.0.0 refl $ move ! (1 ∷ []) $ drop ! $
    -- [the back; the front; what the block follows; the token]
    let fits₀ : length r.0.now < 2 ^ 64 = is₀.0.1.0 in
    let fits₁ : length r.1.now < 2 ^ 64 = is₁.0.1.0 in
    let slice₀ : Val = slice_val r.0.ref_ptr (length r.0.now) in
    let slice₁ : Val = slice_val r.1.ref_ptr (length r.1.now) in
    let is_pair : v ∷ [] ≡ pair_val slice₀ slice₁ ∷ [] = e ∙ (λ k. vstruct (of_list (is₀.0.0 k ++ (is₁.0.0 k ++ []))) ∷ []) in
    lands_as ! (ap only is_pair) refl (tt, ((tt, (record { fits = fits₀ }, tt)), ((tt, (record { fits = fits₁ }, tt)), tt))) $
    let one : StridedMut = record { bytes = r.0; ty = s.ty; stride = s.stride; count = i; fits = front_fits } in
    let two : StridedMut = record { bytes = r.1; ty = s.ty; stride = s.stride; count = s.count - i; fits = back_fits } in
    let fits_rest : s.count - i < 2 ^ 64 = omega (arith, known.3) in
    let loan₀ = loan_of L one (subst (Is Ref r.0) is₀.0.0 is₀) known.1 known.2 fits_i in
    let loan₁ = loan_of L two (subst (Is Ref r.1) is₁.0.0 is₁) known.1 known.2 fits_rest in
    sets ! (of_opd ! (get_in ! (fld ! refl (stop !)) (sub ! 0 refl (whole !)))) refl (tt, (tt, (record { fits = fits₀ }, tt))) $
    sets ! (of_opd ! (get_in ! (fld ! refl (stop !)) (sub ! 1 refl (whole !)))) refl (tt, (tt, (record { fits = fits₁ }, tt))) $
    sets ! (addr ! (from ! (fld ! refl (hop ! (look_in_at ! 7 (sub ! 0 refl (whole !))) (stop !))))) refl (tt, tt) $
    sets ! (agg ! (and_then ! (get ! refl) (and_then ! (get_in ! (fld ! refl (stop !)) (sub ! 1 refl (whole !))) (no_more !)))) refl (tt, (tt, (record { fits = fits₀ }, tt))) $
    sets ! (agg ! (and_then ! (get ! refl) (and_then ! (get ! refl) (and_then ! (get ! refl) (and_then ! (get ! refl) (no_more !)))))) refl (loan_typed L 𝓛 one loan₀).0 $
    sets ! (addr ! (from ! (fld ! refl (hop ! (look_in_at ! 8 (sub ! 0 refl (whole !))) (stop !))))) refl (tt, tt) $
    sets ! (agg ! (and_then ! (get ! refl) (and_then ! (get_in ! (fld ! refl (stop !)) (sub ! 1 refl (whole !))) (no_more !)))) refl (tt, (tt, (record { fits = fits₁ }, tt))) $
    sets ! (bin ! (get ! refl) (get ! refl) within) refl (tt, record { fits = fits_rest }) $
    sets ! (agg ! (and_then ! (get ! refl) (and_then ! (get ! refl) (and_then ! (get ! refl) (and_then ! (get ! refl) (no_more !)))))) refl (loan_typed L 𝓛 two loan₁).0 $
    sets ! (agg ! (and_then ! (get ! refl) (and_then ! (get ! refl) (no_more !)))) refl (pair_typed L 𝓛 one two loan₀ loan₁) $
    returns ! (look_at ! 0 refl) $ free_all ! refl $
    use1 𝓛 (‵ ((S.the_row L).own_val two (S'.lowered two ∷ []))) (made_of L 𝓛 two known.1 known.2 fits_rest) $ move ! (1 ∷ []) $
    use1 𝓛 (‵ ((S.the_row L).own_val one (S'.lowered one ∷ []))) (made_of L 𝓛 one known.1 known.2 fits_i) $
    use2 𝓛 (‵ ((Tuple (S.the_row L ∷ S.the_row L ∷ [])).own_val (one, two) (pair_val (S'.lowered one) (S'.lowered two) ∷ []))) (paired 𝓛 (S.the_row L) one two (S'.lowered one) (S'.lowered two)) $
    let front_is : elements one ≡ record (elements s) { count = i; bytes = take (start_of (elements s) i) s.bytes.now } = ap (λ (bs : List ℕ). record (elements s) { count = i; bytes = bs }) front in
    let back_is : elements two ≡ record (elements s) { count = s.count - i; bytes = drop_l (start_of (elements s) i) s.bytes.now } = ap (λ (bs : List ℕ). record (elements s) { count = s.count - i; bytes = bs }) back in
    let Front : Type 0 = elements one ≡ record (elements s) { count = i; bytes = take (start_of (elements s) i) s.bytes.now } in
    let Back : Type 0 = elements two ≡ record (elements s) { count = s.count - i; bytes = drop_l (start_of (elements s) i) s.bytes.now } in
    move ! (1 ∷ []) $ use0 𝓛 (raw (fact 𝓤 Back)) (fact_i 𝓤 Back (emp 𝓤) back_is) $ join ! $ use0 𝓛 (raw (fact 𝓤 Front)) (fact_i 𝓤 Front (emp 𝓤) front_is) $ join ! $
    nothing ! $ nothing ! $ fjoin ! $ nothing ! $ fjoin ! $ move ! (3 ∷ 0 ∷ 2 ∷ 1 ∷ []) $
    by ! (leaves 𝓛 f.ended stayed c y (pair_val (S'.lowered one) (S'.lowered two)) (one, two) ((tt, tt), (tt, tt)) (tt, (tt, tt)))))))))))))))))
