-- `write_apart` meets its contract: the block is lent again, the loan is split, each half is written and given up, and what
-- `split_at_mut` says of the block makes its last bytes of theirs.
use Rattle.std.proofs.Common.{ℕ, ◌≡◌, ◌-◌, ◌<◌, ◌≤◌, ◌^◌, IsTrue, List, [], ◌∷◌, ◌++◌, length, take, drop as drop_l, refl, sym, ap, ◌∙◌, subst, arith, w64, MutBor}
use Rattle.std.proofs.raw_atomic.Walks.{proved, leaves}
use mir.Val.{Val, vunit, vstruct, of_list}
use mir.Syntax.{named}
use base.Fraction.{full_share}
use base.Logic.{id⊢, emp}
use base.Fml.{ftrue, flft, GName}
use contract.Monad.{fact, fact_i}
use contract.Running.{tables}
use types.Kit.{‵, raw, ◌⊛◌, some, later, given, learn, ◌$◌, ◌∵◌, !, qed, by, move, drop, use0, use1, use2, use3, split, join, fsplit, fjoin, fpick, feq_l, feq_i, pick, await, rewrite}
use types.Run.{enter, of_opd, bin, addr, stop, fld, hop, no_more, and_then, returns, from, unit_lit}
use types.Part.{whole, sub, agg}
use types.ByLocal.{alloc_all, pass_all, free_all, look_at, look_in_at, get, get_in, sets, lands_as}
use types.Tokens.{lft_new, lft_end}
use denote.Builtin.{u8, u64, unit, RefOf}
use denote.Exit.{yes}
use denote.Laws.{Is, shows}
use denote.Plain.{uint_vals, uint_Tells, uint_Makes}
use denote.Ref.{shr_vals, shr_Tells}
use denote.RattleType.{owns}
use denote.Signature.{plain, named_lft, types_at}
use denote.Slice.{mut_slice_vals, mut_slice_Tells, slice_val, finally}
use denote.Steps.{nothing, owned, heard, peeks, only}
use denote.Struct.Tuple.{Tuple}
use denote.Triple.Call.{calls_at}
use denote.Triple.Clauses.{Lasts, lasts}
use denote.Triple.Spec.{triple_of}
use denote.Triple.Table.{framed}
use denote.Triple.Walked.{Stays, walk_of, stay_dropped, stay_slice, Goes-dropped, Goes-slice}
use denote.Enum.Laws.{makes}
use contract.Lifetimes
use borrow.Table.Owned as owned
use borrow.Rule.Slice.Lend.{kept_f, sl_relend, sl_relent_backˡ}
use Rattle.std.specs.Borrow.{Array, follows_both, u8 as byte}
use Rattle.dev_types.specs.Blocks.{FitsBlock, with_part}
use Rattle.dev_types.specs.ValueBytes.{type_of, bytes_of, is_well_typed}
use Rattle.dev_types.specs.contracts.data_types.DataType as D
use Rattle.dev_types.proofs.data_types.DataType.TheLaws as D'
use Rattle.dev_types.specs.contracts.values.Value as V
use Rattle.byte_view.specs.declared.writes.StridedMut.{StridedMut}
use Rattle.byte_view.specs.Elements.{Elements, start_of}
use Rattle.byte_view.specs.Halves.{elements}
use Rattle.byte_view.specs.contracts.writes.StridedMut as S
use Rattle.byte_view.proofs.writes.StridedMut.TheLaws as S'
use Rattle.ground_tests.specs.contracts.strided.write_apart as f
use Rattle.byte_view.specs.contracts.writes.StridedMut.over as g
use Rattle.byte_view.specs.contracts.writes.StridedMut.split_at_mut as h
use Rattle.byte_view.specs.contracts.writes.StridedMut.put as p
use Rattle.byte_view.proofs.writes.StridedMut.over.Met as gm
use Rattle.byte_view.proofs.writes.StridedMut.split_at_mut.Met as hm
use Rattle.byte_view.proofs.writes.StridedMut.put.Met as pm
use Rattle.ground_tests.proofs.strided.write_apart.Statement.{statement}
use Rattle.ground_tests.proofs.strided.write_apart.Code as code
use Rattle.byte_view.proofs.Loans.{both_left, type_typed, loan_typed, pair_val, pair_typed}
use Rattle.byte_view.proofs.Apart.{halves_written}

abbrev stayed : Stays f.ended.signature.params f.ended.kept
stayed =
    let number = stay_dropped (plain (λ _. u64)) yes in
    (stay_slice (0 ∷ []) tt (plain (λ _. u8)), (stay_dropped (plain (λ _. D.the_row)) yes, (number, (number, (number, (number, (number, (stay_dropped _ yes, (stay_dropped _ yes, tt)))))))))

pub write_apart_spec : {M : Type 1} → statement M
write_apart_spec 𝓤 𝓛 𝓜 𝓡 wired =
    let c = f.clauses 𝓛 𝓜.mem 𝓡.returns in
    let W = walk_of 𝓛 f.ended stayed c in
    let number = Goes-dropped 𝓛 3 (plain (λ _. u64)) yes (λ κs x w. refl) in
    proved 𝓛 f.ended stayed c 𝓜 𝓡
    (Goes-slice 𝓛 3 0 tt (plain (λ _. u8)), (Goes-dropped 𝓛 3 (plain (λ _. D.the_row)) yes (λ κs x w. refl), (number, (number, (number, (number, (number, (Goes-dropped 𝓛 3 (RefOf (1 ∷ []) tt (plain (λ _. V.the_row)) (λ _. tt)) yes (λ κs x w. refl), (Goes-dropped 𝓛 3 (RefOf (2 ∷ []) tt (plain (λ _. V.the_row)) (λ _. tt)) yes (λ κs x w. refl), tt)))))))))
    f.Key.name code.function (code.unfolded 𝓤 𝓛.H 𝓜 𝓡 wired)
    (λ κs. (mut_slice_vals, ((λ d. D'.lowered d ∷ []), (uint_vals w64, (uint_vals w64, (uint_vals w64, (uint_vals w64, (uint_vals w64, (shr_vals, (shr_vals, tt))))))))))
    (λ κs. (mut_slice_Tells (named 0) κs.0 u8, (D'.lowers.val_is, (uint_Tells w64, (uint_Tells w64, (uint_Tells w64, (uint_Tells w64, (uint_Tells w64, (shr_Tells (named 1) κs.1.0 V.the_row, (shr_Tells (named 2) κs.1.1.0 V.the_row, tt))))))))))
    (λ κs qs bounds a _ are.
    let κ = κs.0 in
    let q = qs.0 in
    let ref = a.0 in
    let ty = a.1.0 in
    let stride = a.1.1.0 in
    let count = a.1.1.1.0 in
    let i = a.1.1.1.1.0 in
    let j = a.1.1.1.1.1.0 in
    let k = a.1.1.1.1.1.1.0 in
    let v = a.1.1.1.1.1.1.1.0 in
    let w = a.1.1.1.1.1.1.1.1.0 in
    let Fits : Type 0 = FitsBlock ty stride count (length ref.now) in
    let First : Type 0 = (type_of v.now ≡ ty) × IsTrue (is_well_typed v.now) in
    let Second : Type 0 = (type_of w.now ≡ ty) × IsTrue (is_well_typed w.now) in
    let y : W.Ghost = ((κs, qs, bounds, a, (mut_slice_vals ref, (D'.lowered ty ∷ [], (uint_vals w64 stride, (uint_vals w64 count, (uint_vals w64 i, (uint_vals w64 j, (uint_vals w64 k, (shr_vals v, (shr_vals w, tt)))))))))), tt) in
    qed 𝓛 (((‵ (flft κs.0 qs.0) ⊛ ‵ (flft κs.1.0 qs.1.0) ⊛ ‵ (flft κs.1.1.0 qs.1.1.0) ⊛ ‵ ftrue) ⊛ ‵ (owns (types_at f.signature.params κs) a y.0.4)) ∷
    (raw (fact 𝓤 Fits) ⊛ raw (fact 𝓤 (j < i)) ⊛ raw (fact 𝓤 (i ≤ k)) ⊛ raw (fact 𝓤 (k < count)) ⊛ raw (fact 𝓤 First) ⊛ raw (fact 𝓤 Second)) ∷ []) ∵
    move ! (1 ∷ []) $ split ! $ heard ! Fits (λ fits. split ! $ heard ! (j < i) (λ before. split ! $ heard ! (i ≤ k) (λ behind. split ! $ heard ! (k < count) (λ within.
    split ! $ heard ! First (λ first. heard ! Second (λ second.
    split ! $ split ! $ move ! (1 ∷ []) $ split ! $ move ! (1 ∷ []) $ split ! $ move ! (1 ∷ []) $ drop ! $ move ! (3 ∷ []) $
    -- [what the parameters own; the three tokens, the last first]
    fsplit ! $ move ! (1 ∷ []) $ fsplit ! $ drop ! $ fsplit ! $ drop ! $ fsplit ! $ drop ! $ fsplit ! $ drop ! $ fsplit ! $ drop ! $ fsplit ! $ drop ! $ fsplit ! $ move ! (1 ∷ []) $ fsplit ! $ move ! (1 ∷ []) $ drop ! $
    -- [second value; first value; the block; the three tokens]
    move ! (2 ∷ 1 ∷ 0 ∷ 5 ∷ 4 ∷ 3 ∷ []) $
    let fits_all : length ref.now < 2 ^ 64 = are.0.0.1.0 in
    let typed_ty = (type_typed 𝓛 ty are.1.0).0 in
    let fits_stride : stride < 2 ^ 64 = are.1.1.0.1 in
    let fits_count : count < 2 ^ 64 = are.1.1.1.0.1 in
    let fits_i : i < 2 ^ 64 = are.1.1.1.1.0.1 in
    let fits_j : j < 2 ^ 64 = are.1.1.1.1.1.0.1 in
    let fits_k : k < 2 ^ 64 = are.1.1.1.1.1.1.0.1 in
    enter ! _ _ _ _ _ $ alloc_all ! (λ l. pass_all ! refl ((tt, (tt, (record { fits = fits_all }, tt))), (typed_ty, ((tt, record { fits = fits_stride }), ((tt, record { fits = fits_count }), ((tt, record { fits = fits_i }), ((tt, record { fits = fits_j }), ((tt, record { fits = fits_k }), ((tt, tt), ((tt, tt), tt))))))))) $
    sets ! (addr ! (from ! (fld ! refl (hop ! (look_in_at ! 1 (sub ! 0 refl (whole !))) (stop !))))) refl (tt, tt) $
    sets ! (agg ! (and_then ! (get ! refl) (and_then ! (get_in ! (fld ! refl (stop !)) (sub ! 1 refl (whole !))) (no_more !)))) refl (tt, (tt, (record { fits = fits_all }, tt))) $
    -- the block is lent again, for α
    fsplit ! $ fsplit ! $ drop ! $ fjoin ! $ lft_new ! tt (λ α. move ! (1 ∷ 4 ∷ []) $
    let κs₁ : contract.Lifetimes.Lfts 1 = (α ∷ [], tt) in
    let L = named_lft 1 0 tt κs₁ in
    use2 𝓛 (later (some (λ (δ : ℕ). ‵ ((owned.MutSlice (named 0) (α ∷ []) u8).own_val (record ref { ghost_name = δ })) ⊛ kept_f 𝓛 u8 κ q (α ∷ []) ref.ghost_name δ ref.now ref.ref_ptr.0 ref.ref_ptr.1)))
    (sl_relend 𝓛 u8 κ q (α ∷ []) ref.ref_ptr.0 ref.ref_ptr.1 ref.ghost_name ref.now) $ await ! tt $ pick ! (λ δ. split ! $
    let lent : MutBor (List ℕ) = record ref { ghost_name = δ } in
    fsplit ! $ feq_i ! (List Val) (mut_slice_vals lent) (mut_slice_vals lent) refl $ fjoin ! $ fjoin ! $
    -- [the loan of the block; what the lender keeps; the token of α; the two values; their tokens]
    let G = triple_of 𝓛 g.signature (g.spec 𝓛 𝓜.mem 𝓡.returns) in
    let z : G.Ghost = ((κs₁, (full_share, tt), tt, (lent, (ty, (stride, (count, tt)))), (mut_slice_vals lent, (D'.lowered ty ∷ [], (uint_vals w64 stride, (uint_vals w64 count, tt))))), tt) in
    nothing ! $ owned ! u64 (Is u64) (uint_Makes 𝓛 w64) count (uint_vals w64 count) (refl, fits_count) $ fjoin ! $
    owned ! u64 (Is u64) (uint_Makes 𝓛 w64) stride (uint_vals w64 stride) (refl, fits_stride) $ fjoin ! $
    owned ! D.the_row (Is D.the_row) (makes D.the_type D'.the_plain 𝓛) ty (D'.lowered ty ∷ []) are.1.0 $ fjoin ! $
    move ! (1 ∷ 0 ∷ []) $ fjoin ! $ nothing ! $ move ! (3 ∷ 0 ∷ []) $ join ! $ join ! $
    use0 𝓛 (raw (fact 𝓤 Fits)) (fact_i 𝓤 Fits (emp 𝓤) fits) $ move ! (1 ∷ 0 ∷ []) $ use2 𝓛 (raw (G.pre z)) (id⊢ 𝓤 _) $
    calls_at ! (framed 𝓤 𝓛.H 𝓜 (tables 𝓤 𝓛.H 𝓜 𝓡 𝓡.env)) G (gm.met 𝓤 𝓛 𝓜 𝓡 (code.calls-byte_view::writes::StridedMut::over 𝓡.env wired)) z
    (and_then ! (get ! refl) (and_then ! (get ! refl) (and_then ! (get ! refl) (and_then ! (get ! refl) (no_more !))))) (λ u.
    use1 𝓛 (later (some (λ (r : StridedMut). ((‵ (flft (α ∷ []) full_share) ⊛ ‵ ftrue) ⊛ ‵ ((S.the_row L).own_val r (u ∷ []))) ⊛
    some (λ (ws : Lasts g.ended κs₁ z.0.3). ‵ (lasts g.ended κs₁ z.0.3 ws) ⊛
    raw (fact 𝓤 (elements r ≡ record { ty = ty; stride = stride; count = count; bytes = ref.now })) ⊛ raw (fact 𝓤 (r.bytes.ghost_name ≡ δ)))))) (id⊢ 𝓤 _) $
    await ! tt $ pick ! (λ r. split ! $ split ! $ split ! $ move ! (3 ∷ []) $ pick ! (λ ws. split ! $ drop ! $
    split ! $ heard ! (elements r ≡ record { ty = ty; stride = stride; count = count; bytes = ref.now }) (λ value. heard ! (r.bytes.ghost_name ≡ δ) (λ same.
    move ! (2 ∷ 0 ∷ 1 ∷ []) $ peeks ! (S.the_row L) (Is (S.the_row L)) (shows 𝓛 (S.the_row L)) r (u ∷ []) (λ is.
    let is_u : u ∷ [] ≡ S'.lowered r ∷ [] = (S'.lowers L).val_is r (u ∷ []) is in
    rewrite ! 0 (λ (us : List Val). ‵ ((S.the_row L).own_val r us)) is_u refl $ lands_as ! (ap only is_u) refl (loan_typed L 𝓛 r (subst (Is (S.the_row L) r) is_u is)).0 $
    -- [the loan of the elements; the token of α; nothing; what the lender keeps; the two values; their tokens]
    move ! (2 ∷ []) $ drop ! $
    let cut : ℕ = start_of (elements r) i in
    let same_count : r.count ≡ count = ap (λ (e : Elements). e.count) value in
    let split_at : i ≤ r.count = omega arith in
    let G₂ = triple_of 𝓛 h.signature (h.spec 𝓛 𝓜.mem 𝓡.returns) in
    let z₂ : G₂.Ghost = ((κs₁, (full_share, tt), tt, (r, (i, tt)), (S'.lowered r ∷ [], (uint_vals w64 i, tt))), tt) in
    nothing ! $ owned ! u64 (Is u64) (uint_Makes 𝓛 w64) i (uint_vals w64 i) (refl, fits_i) $ fjoin ! $ move ! (1 ∷ 0 ∷ []) $ fjoin ! $
    nothing ! $ move ! (2 ∷ 0 ∷ []) $ join ! $ join ! $
    use0 𝓛 (raw (fact 𝓤 (i ≤ r.count))) (fact_i 𝓤 (i ≤ r.count) (emp 𝓤) split_at) $ move ! (1 ∷ 0 ∷ []) $ use2 𝓛 (raw (G₂.pre z₂)) (id⊢ 𝓤 _) $
    calls_at ! (framed 𝓤 𝓛.H 𝓜 (tables 𝓤 𝓛.H 𝓜 𝓡 𝓡.env)) G₂ (hm.met 𝓤 𝓛 𝓜 𝓡 (code.calls-byte_view::writes::StridedMut::split_at_mut 𝓡.env wired)) z₂
    (and_then ! (get ! refl) (and_then ! (get ! refl) (no_more !))) (λ u₂.
    use1 𝓛 (later (some (λ (r₂ : StridedMut × StridedMut). ((‵ (flft (α ∷ []) full_share) ⊛ ‵ ftrue) ⊛ ‵ ((Tuple (S.the_row L ∷ S.the_row L ∷ [])).own_val r₂ (u₂ ∷ []))) ⊛
    some (λ (ws : Lasts h.ended κs₁ z₂.0.3). ‵ (lasts h.ended κs₁ z₂.0.3 ws) ⊛
    raw (fact 𝓤 (elements r₂.0 ≡ record (elements r) { count = i; bytes = take cut r.bytes.now })) ⊛
    raw (fact 𝓤 (elements r₂.1 ≡ record (elements r) { count = r.count - i; bytes = drop_l cut r.bytes.now })) ⊛
    ‵ (follows_both (Array byte 0) (Array byte 0) (Array byte 0) r.bytes.ghost_name r₂.0.bytes.ghost_name r₂.1.bytes.ghost_name ◌++◌))))) (id⊢ 𝓤 _) $
    await ! tt $ pick ! (λ r₂. split ! $ split ! $ split ! $ move ! (3 ∷ []) $ pick ! (λ ws₂. split ! $ drop ! $
    let one = r₂.0 in let two = r₂.1 in
    split ! $ heard ! (elements one ≡ record (elements r) { count = i; bytes = take cut r.bytes.now }) (λ front.
    split ! $ heard ! (elements two ≡ record (elements r) { count = r.count - i; bytes = drop_l cut r.bytes.now }) (λ back.
    -- [what the block follows; the token of α; nothing; the two halves; what the lender keeps; the two values; their tokens]
    move ! (3 ∷ []) $ fpick ! (λ vss. fsplit ! $ feq_l ! (λ e. fsplit ! $
    peeks ! (S.the_row L) (Is (S.the_row L)) (shows 𝓛 (S.the_row L)) one vss.0 (λ is₀.
    let is_one = (S'.lowers L).val_is one vss.0 is₀ in
    rewrite ! 0 (λ (us : List Val). ‵ ((S.the_row L).own_val one us)) is_one refl $ move ! (1 ∷ []) $ fsplit ! $
    peeks ! (S.the_row L) (Is (S.the_row L)) (shows 𝓛 (S.the_row L)) two vss.1.0 (λ is₁.
    let is_two = (S'.lowers L).val_is two vss.1.0 is₁ in
    rewrite ! 0 (λ (us : List Val). ‵ ((S.the_row L).own_val two us)) is_two refl $ move ! (2 ∷ 0 ∷ 3 ∷ 4 ∷ []) $
    -- [the front; the back; what the block follows; the token of α; nothing; nothing; ..]
    let loan₀ = subst (Is (S.the_row L) one) is_one is₀ in
    let loan₁ = subst (Is (S.the_row L) two) is_two is₁ in
    let is_pair : u₂ ∷ [] ≡ pair_val (S'.lowered one) (S'.lowered two) ∷ [] = e ∙ (λ k. vstruct (of_list (is_one k ++ (is_two k ++ []))) ∷ []) in
    lands_as ! (ap only is_pair) refl (pair_typed L 𝓛 one two loan₀ loan₁) $
    sets ! (of_opd ! (get_in ! (fld ! refl (stop !)) (sub ! 0 refl (whole !)))) refl (loan_typed L 𝓛 one loan₀).0 $
    sets ! (of_opd ! (get_in ! (fld ! refl (stop !)) (sub ! 1 refl (whole !)))) refl (loan_typed L 𝓛 two loan₁).0 $
    sets ! (of_opd ! (get ! refl)) refl (loan_typed L 𝓛 one loan₀).0 $
    let κs₂ : Lifetimes.Lfts 2 = (α ∷ [], (κs.1.0, tt)) in
    let G₃ = triple_of 𝓛 p.signature (p.spec 𝓛 𝓜.mem 𝓡.returns) in
    let z₃ : G₃.Ghost = ((κs₂, (full_share, (qs.1.0, tt)), tt, (one, (j, (v, tt))), (S'.lowered one ∷ [], (uint_vals w64 j, (shr_vals v, tt)))), tt) in
    let one_type : one.ty ≡ ty = ap (λ (e : Elements). e.ty) front ∙ ap (λ (e : Elements). e.ty) value in
    let one_count : one.count ≡ i = ap (λ (e : Elements). e.count) front in
    let first_within : j < one.count = omega arith in
    let first_typed : type_of v.now ≡ one.ty = first.0 ∙ sym one_type in
    nothing ! $ move ! (8 ∷ 0 ∷ []) $ fjoin ! $ owned ! u64 (Is u64) (uint_Makes 𝓛 w64) j (uint_vals w64 j) (refl, fits_j) $ fjoin ! $ move ! (1 ∷ 0 ∷ []) $ fjoin ! $
    nothing ! $ move ! (9 ∷ 0 ∷ []) $ join ! $ move ! (4 ∷ 0 ∷ []) $ join ! $ join ! $
    use0 𝓛 (raw (fact 𝓤 (IsTrue (is_well_typed v.now)))) (fact_i 𝓤 (IsTrue (is_well_typed v.now)) (emp 𝓤) first.1) $
    use0 𝓛 (raw (fact 𝓤 (type_of v.now ≡ one.ty))) (fact_i 𝓤 (type_of v.now ≡ one.ty) (emp 𝓤) first_typed) $ join ! $
    use0 𝓛 (raw (fact 𝓤 (j < one.count))) (fact_i 𝓤 (j < one.count) (emp 𝓤) first_within) $ join ! $ move ! (1 ∷ 0 ∷ []) $ use2 𝓛 (raw (G₃.pre z₃)) (id⊢ 𝓤 _) $
    calls_at ! (framed 𝓤 𝓛.H 𝓜 (tables 𝓤 𝓛.H 𝓜 𝓡 𝓡.env)) G₃ (pm.met 𝓤 𝓛 𝓜 𝓡 (code.calls-byte_view::writes::StridedMut::put 𝓡.env wired)) z₃
    (and_then ! (get ! refl) (and_then ! (get ! refl) (and_then ! (get ! refl) (no_more !)))) (λ u₃.
    use1 𝓛 (later (some (λ (n : Unit {0}). ((‵ (flft (α ∷ []) full_share) ⊛ ‵ (flft κs.1.0 qs.1.0) ⊛ ‵ ftrue) ⊛ ‵ (unit.own_val n (u₃ ∷ []))) ⊛
    some (λ (ws : Lasts p.ended κs₂ z₃.0.3). ‵ (lasts p.ended κs₂ z₃.0.3 ws) ⊛
    raw (fact 𝓤 (ws.0.0 ≡ with_part one.ty one.stride one.bytes.now j (bytes_of v.now))))))) (id⊢ 𝓤 _) $
    await ! tt $ pick ! (λ n₃. split ! $ split ! $ move ! (2 ∷ []) $ pick ! (λ ws₃. split ! $
    fsplit ! $ move ! (1 ∷ []) $ drop ! $ fsplit ! $ fsplit ! $ fsplit ! $ move ! (1 ∷ []) $ feq_l ! (λ long₁. move ! (3 ∷ []) $
    heard ! (ws₃.0.0 ≡ with_part one.ty one.stride one.bytes.now j (bytes_of v.now)) (λ done₁. move ! (4 ∷ []) $ feq_l ! (λ is_unit. lands_as ! (ap only is_unit) refl (tt, tt) $
    -- [the front at last; its borrow; nothing; two tokens; the back; what the block follows; nothing; nothing; what the lender keeps; the second value; its token]
    move ! (3 ∷ []) $ split ! $ move ! (1 ∷ []) $ split ! $ move ! (1 ∷ []) $ drop ! $ move ! (3 ∷ []) $ drop ! $ move ! (3 ∷ []) $ drop ! $ move ! (5 ∷ []) $ drop ! $ move ! (5 ∷ []) $ drop ! $
    move ! (3 ∷ 1 ∷ 6 ∷ 7 ∷ 2 ∷ 4 ∷ 5 ∷ 0 ∷ []) $
    -- [the back; the token of α; the second value; its token; the front at last; what the block follows; what the lender keeps; the first value's token]
    sets ! (of_opd ! (get ! refl)) refl (loan_typed L 𝓛 two loan₁).0 $
    sets ! (bin ! (get ! refl) (get ! refl) behind) refl (tt, record { fits = omega (arith, fits_k) }) $
    let n : ℕ = k - i in
    let fits_n : n < 2 ^ 64 = omega (arith, fits_k) in
    let κs₃ : Lifetimes.Lfts 2 = (α ∷ [], (κs.1.1.0, tt)) in
    let z₄ : G₃.Ghost = ((κs₃, (full_share, (qs.1.1.0, tt)), tt, (two, (n, (w, tt))), (S'.lowered two ∷ [], (uint_vals w64 n, (shr_vals w, tt)))), tt) in
    let two_type : two.ty ≡ ty = ap (λ (e : Elements). e.ty) back ∙ ap (λ (e : Elements). e.ty) value in
    let two_count : two.count ≡ r.count - i = ap (λ (e : Elements). e.count) back in
    let second_within : n < two.count = omega arith in
    let second_typed : type_of w.now ≡ two.ty = second.0 ∙ sym two_type in
    nothing ! $ move ! (3 ∷ 0 ∷ []) $ fjoin ! $ owned ! u64 (Is u64) (uint_Makes 𝓛 w64) n (uint_vals w64 n) (refl, fits_n) $ fjoin ! $ move ! (1 ∷ 0 ∷ []) $ fjoin ! $
    nothing ! $ move ! (3 ∷ 0 ∷ []) $ join ! $ move ! (2 ∷ 0 ∷ []) $ join ! $ join ! $
    use0 𝓛 (raw (fact 𝓤 (IsTrue (is_well_typed w.now)))) (fact_i 𝓤 (IsTrue (is_well_typed w.now)) (emp 𝓤) second.1) $
    use0 𝓛 (raw (fact 𝓤 (type_of w.now ≡ two.ty))) (fact_i 𝓤 (type_of w.now ≡ two.ty) (emp 𝓤) second_typed) $ join ! $
    use0 𝓛 (raw (fact 𝓤 (n < two.count))) (fact_i 𝓤 (n < two.count) (emp 𝓤) second_within) $ join ! $ move ! (1 ∷ 0 ∷ []) $ use2 𝓛 (raw (G₃.pre z₄)) (id⊢ 𝓤 _) $
    calls_at ! (framed 𝓤 𝓛.H 𝓜 (tables 𝓤 𝓛.H 𝓜 𝓡 𝓡.env)) G₃ (pm.met 𝓤 𝓛 𝓜 𝓡 (code.calls-byte_view::writes::StridedMut::put 𝓡.env wired)) z₄
    (and_then ! (get ! refl) (and_then ! (get ! refl) (and_then ! (get ! refl) (no_more !)))) (λ u₄.
    use1 𝓛 (later (some (λ (m : Unit {0}). ((‵ (flft (α ∷ []) full_share) ⊛ ‵ (flft κs.1.1.0 qs.1.1.0) ⊛ ‵ ftrue) ⊛ ‵ (unit.own_val m (u₄ ∷ []))) ⊛
    some (λ (ws : Lasts p.ended κs₃ z₄.0.3). ‵ (lasts p.ended κs₃ z₄.0.3 ws) ⊛
    raw (fact 𝓤 (ws.0.0 ≡ with_part two.ty two.stride two.bytes.now n (bytes_of w.now))))))) (id⊢ 𝓤 _) $
    await ! tt $ pick ! (λ n₄. split ! $ split ! $ move ! (2 ∷ []) $ pick ! (λ ws₄. split ! $
    fsplit ! $ move ! (1 ∷ []) $ drop ! $ fsplit ! $ fsplit ! $ fsplit ! $ move ! (1 ∷ []) $ feq_l ! (λ long₂. move ! (3 ∷ []) $
    heard ! (ws₄.0.0 ≡ with_part two.ty two.stride two.bytes.now n (bytes_of w.now)) (λ done₂. move ! (4 ∷ []) $ feq_l ! (λ is_unit₂. lands_as ! (ap only is_unit₂) refl (tt, tt) $
    sets ! (of_opd ! (unit_lit !)) refl (tt, tt) $
    -- [the back at last; its borrow; nothing; two tokens; the front at last; what the block follows; what the lender keeps; the first value's token]
    move ! (3 ∷ []) $ split ! $ move ! (1 ∷ []) $ split ! $ move ! (1 ∷ []) $ drop ! $ move ! (3 ∷ []) $ drop ! $ move ! (3 ∷ []) $ drop ! $
    move ! (4 ∷ 3 ∷ 2 ∷ []) $ move ! (1 ∷ 2 ∷ []) $ join ! $ move ! (1 ∷ 0 ∷ []) $
    use2 𝓛 (‵ (finally u8 r.bytes.ghost_name (ws₃.0.0 ++ ws₄.0.0))) (both_left 𝓛 r.bytes.ghost_name one.bytes.ghost_name two.bytes.ghost_name ws₃.0.0 ws₄.0.0) $
    -- [the block at last; the token of α; the second value's; what the lender keeps; the first value's]
    rewrite ! 0 (λ (g : GName). ‵ (finally u8 g (ws₃.0.0 ++ ws₄.0.0))) same refl $ move ! (1 ∷ []) $
    let last : List ℕ = ws₃.0.0 ++ ws₄.0.0 in
    move ! (2 ∷ []) $ lft_end ! tt $ move ! (0 ∷ 3 ∷ 2 ∷ []) $
    use3 𝓛 (later (given (length last ≡ length ref.now) (‵ ((owned.MutSlice (named 0) κ u8).own_val (record ref { now = last })) ⊛ ‵ (flft κ q))))
    (sl_relent_backˡ 𝓛 u8 κ q (α ∷ []) ref.ref_ptr.0 ref.ref_ptr.1 ref.ghost_name δ ref.now last) $ await ! tt $ learn ! (λ long. split ! $
    let out : MutBor (List ℕ) = record ref { now = last } in
    fsplit ! $ feq_i ! (List Val) (mut_slice_vals ref) (mut_slice_vals out) (λ n. slice_val ref.ref_ptr (sym long n) ∷ []) $ fjoin ! $ fjoin ! $
    returns ! (look_at ! 0 refl) $ free_all ! refl $
    let Done : Type 0 = last ≡ with_part ty stride (with_part ty stride ref.now j (bytes_of v.now)) k (bytes_of w.now) in
    let done : Done =
    halves_written (elements r) (elements one) (elements two) i j k (bytes_of v.now) (bytes_of w.now) ws₃.0.0 ws₄.0.0 r.fits before behind (omega arith) front back done₁ long₁ done₂ ∙
    ap (λ (e : Elements). with_part e.ty e.stride (with_part e.ty e.stride e.bytes j (bytes_of v.now)) k (bytes_of w.now)) value in
    nothing ! $ nothing ! $ fjoin ! $ nothing ! $ fjoin ! $ nothing ! $ fjoin ! $ nothing ! $ fjoin ! $ nothing ! $ fjoin ! $ nothing ! $ fjoin ! $ nothing ! $ fjoin ! $ nothing ! $ fjoin ! $
    move ! (1 ∷ 0 ∷ []) $ fjoin ! $
    nothing ! $ move ! (3 ∷ 0 ∷ []) $ join ! $ move ! (3 ∷ 0 ∷ []) $ join ! $ move ! (2 ∷ 0 ∷ []) $ join ! $
    feq_i ! (List Val) (vunit ∷ []) (vunit ∷ []) refl $ use0 𝓛 (raw (fact 𝓤 Done)) (fact_i 𝓤 Done (emp 𝓤) done) $ move ! (2 ∷ 3 ∷ 1 ∷ 0 ∷ []) $
    by ! (leaves 𝓛 f.ended stayed c y vunit tt (last, (tt, (tt, (tt, (tt, (tt, (tt, (tt, (tt, tt))))))))) (long, (tt, (tt, (tt, (tt, (tt, (tt, (tt, (tt, tt))))))))))))))))))))))))))))))))))))))))))))))))
