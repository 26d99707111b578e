-- `part_mut` lends a part of the array as a slice. The borrow checker shows no clause on what a loan
-- of a part of an array leaves, so this proof walks the code by hand.
use Rattle.vbi_line.proofs.Common.{◌≡◌, ℕ, ◌+◌, ◌-◌, ◌≤◌, [], ◌∷◌, ◌++◌, length, drop, refl, sym, ap, ◌∙◌, arith}
use Rattle.vbi_line.proofs.Common.{length-take-le, Ura, SProp, ent, sep, Fml, ftrue, Logic, sem, cells, ‵, ◌⊛◌, raw}
use Rattle.vbi_line.proofs.Common.{◌$◌, ◌∵◌, !, qed, done, move, rewrite, split, fsplit, fjoin, use1, use2, Array, u8}
use Rattle.vbi_line.proofs.Common.{mem, nothing, LineBytes, with_part}
use Rattle.std.proofs.Common.{List, take, w64}
use Rattle.std.proofs.raw_atomic.Walks.{proved}
use mir.Syntax.{named}
use mir.Val.{Val}
use base.Logic.{ex}
use base.Fml.{Lft, GName, Share, flft}
use contract.Monad.{fact}
use types.Mut.{open_ref}
use types.Part.{agg}
use types.Kit.{Item, given, some, later, by, keep, drop as let_go, show, split3, join, learn, fsplit3, await, pick}
use types.Kit.{suffices, frame, updating, group, now}
use types.Run.{stop, fld, addr, bin, and_then, no_more, returns, enter}
use types.ByLocal.{alloc_all, pass_all, free_all, look_at, get, through, sets}
use denote.Builtin.{usize, RefMutOf}
use denote.Exit.{yes, no}
use denote.Follow.{follows}
use denote.FollowSlice.{lends_Elements}
use denote.Plain.{uint_vals, uint_Tells}
use denote.RattleType.{owns}
use denote.Ref.{MutRef, mut_vals, mut_Tells}
use denote.Signature.{plain}
use denote.Slice.{MutSlice, slice_val}
use denote.Steps.{heard}
use denote.Triple.Walked.{says, Stays, stay_dropped, walk_of, ends_at, Goes-dropped, Goes-spent_ref}
use borrow.Table.Elements.{at, at_byte, cut_app, join_app}
use Rattle.vbi_line.specs.contracts.store.LineBytes.{the_row as S}
use Rattle.vbi_line.specs.contracts.store.LineBytes.part_mut as f
use Rattle.vbi_line.proofs.StoreMemory.{part_of, in_parts, length-part, with_part-same, length-with_part, start, Left}
use Rattle.vbi_line.proofs.StoreMemory.{bytes_out, bytes_in}
use Rattle.vbi_line.proofs.store.LineBytes.part_mut.Statement.{statement}
use Rattle.vbi_line.proofs.store.LineBytes.part_mut.Code as code

-- what of the parameters is kept to the end
abbrev stayed : Stays f.ended.signature.params f.ended.kept
stayed = (
  stay_dropped (RefMutOf (0 ∷ []) tt (plain (λ _. S)) (λ _. tt)) no,
  (stay_dropped (plain (λ _. usize)) yes, (stay_dropped (plain (λ _. usize)) yes, tt)),
)

-- the bytes from one place up to another are lent, and the rest is kept until they come back
module _ {M : Type 1} {𝓤 : Ura M} (𝓛 : Logic 𝓤) (κ : Lft) (q : Share) (b o : ℕ) (γ : GName)
    (d : LineBytes) (from to : ℕ) where
  open 𝓛 use {H, A}

  -- the bytes
  abbrev xs : List ℕ
  xs = d.bytes

  -- those before the part
  abbrev front : List ℕ
  front = take from xs

  -- the part
  abbrev part : List ℕ
  part = part_of xs from to

  -- those after it
  abbrev back : List ℕ
  back = drop to xs

  -- the struct with the part written over
  abbrev after : List ℕ → LineBytes
  after ws = record { bytes = with_part xs from to ws }

  -- bytes at an offset
  abbrev Bytes : List ℕ → ℕ → SProp 𝓤
  Bytes ys p = sem 𝓛 (cells (mem u8) ys b p)

  -- where the part begins
  abbrev place : ℕ
  place = from + start o

  -- where n bytes from there end
  abbrev past : ℕ → ℕ
  past n = at place (mem u8).size n

  -- what is kept while the part is lent
  abbrev Rest : SProp 𝓤
  Rest = sep 𝓤 (Bytes front (start o)) (sep 𝓤 (Bytes back (past (length part))) (Left 𝓛 b o))

  placed : from ≤ length xs → at (start o) (mem u8).size (length front) ≡ place
  placed inside = at_byte (start o) (length front) ∙ ap (λ n. n + start o) (length-take-le from xs inside)

  put : from ≤ to → to ≤ 2270 → length xs ≡ 2270 → (ws : List ℕ) → length ws ≡ length part
      → ent 𝓤 (sep 𝓤 (Bytes ws place) Rest) (sem 𝓛 ((mem S).own_at (after ws) b o))
  put le inside long ws same =
      let count = length-part xs from to le (omega arith) in
      let all = with_part-same xs from to ws (same ∙ count) in
      qed 𝓛 (
      ‵ (cells (mem u8) ws b place)
      ∷ ‵ (cells (mem u8) front b (start o))
      ∷ ‵ (cells (mem u8) back b (past (length part)))
      ∷ raw (Left 𝓛 b o)
      ∷ []
      ) ∵
      rewrite ! 2 (λ n. ‵ (cells (mem u8) back b (past n))) (sym same) refl $ move ! (0 ∷ 2 ∷ []) $
      use2 𝓛 (‵ (cells (mem u8) (ws ++ back) b place)) (join_app 𝓛 (mem u8) ws back b place) $
      rewrite ! 0 (λ p. ‵ (cells (mem u8) (ws ++ back) b p)) (sym (placed (omega arith))) refl $ move ! (1 ∷ 0 ∷ []) $
      use2 𝓛 (‵ (cells (mem u8) (front ++ (ws ++ back)) b (start o)))
      (join_app 𝓛 (mem u8) front (ws ++ back) b (start o)) $
      rewrite ! 0 (λ ys. ‵ (cells (mem u8) ys b (start o))) all refl $
      by ! (bytes_in 𝓛 b o (after ws) (length-with_part xs from to ws le (omega arith) (same ∙ count) ∙ long))

  -- the part as a slice of n bytes
  abbrev Slice : ℕ → GName → Fml
  Slice n δ = (MutSlice (named 0) κ u8).own_val (record { ref_ptr = (b, place); ghost_name = δ; now = part })
      (slice_val (b, place) n ∷ [])

  -- what the caller gets: the slice, the lifetime's token, and what follows when the loan ends
  abbrev Lent : ℕ → GName → SProp 𝓤
  Lent n δ = sep 𝓤 (sem 𝓛 (Slice n δ)) (sep 𝓤 (A.lft κ q) (sem 𝓛 (follows S (Array u8 0) γ δ after)))

  -- the same as an item of a proof
  abbrev lent : ℕ → GName → Item 𝓤
  lent n δ = ‵ (Slice n δ) ⊛ ‵ (flft κ q) ⊛ ‵ (follows S (Array u8 0) γ δ after)

  -- the struct's reference
  abbrev Ref : List Val → Fml
  Ref vs = (MutRef (named 0) κ S).own_val (record { ref_ptr = (b, o); ghost_name = γ; now = d }) vs

  lends : from ≤ to → to ≤ 2270 → (vs : List Val)
      → ent 𝓤 (sep 𝓤 (sem 𝓛 (Ref vs)) (A.lft κ q)) (H.⇛ (ex 𝓤 (Lent (to - from))))
  lends le inside vs =
      qed 𝓛 (‵ (Ref vs) ∷ ‵ (flft κ q) ∷ []) ∵
      updating ! $ fsplit3 ! $ let_go ! $ open_ref ! tt (mem S) {b = b} {o = o} $
      use1 𝓛 (given (length xs ≡ 2270) (‵ (cells (mem u8) xs b (start o)) ⊛ raw (Left 𝓛 b o))) (bytes_out 𝓛 b o d) $
      learn ! (λ long. split ! $
      let count = length-part xs from to le (omega arith) in
      rewrite ! 0 (λ ys. ‵ (cells (mem u8) ys b (start o))) (sym (in_parts xs from to le)) refl $
      use1 𝓛 (‵ (cells (mem u8) front b (start o))
      ⊛ ‵ (cells (mem u8) (part ++ back) b (at (start o) (mem u8).size (length front))))
      (cut_app 𝓛 (mem u8) front (part ++ back) b (start o)) $
      split ! $ move ! (1 ∷ []) $
      rewrite ! 0 (λ p. ‵ (cells (mem u8) (part ++ back) b p)) (placed (omega arith)) refl $
      use1 𝓛 (‵ (cells (mem u8) part b place) ⊛ ‵ (cells (mem u8) back b (past (length part))))
      (cut_app 𝓛 (mem u8) part back b place) $
      split ! $
      -- [the part; what is after it; what is before it; the rest of the struct; the open borrow, in three entries]
      move ! (1 ∷ 3 ∷ []) $ join ! $ move ! (2 ∷ 0 ∷ []) $ join ! $ move ! (2 ∷ 3 ∷ 4 ∷ 1 ∷ 0 ∷ []) $ group ! 5 $
      use1 𝓛 (later (some (lent (length part))))
      (lends_Elements 𝓛 S u8 after (named 0) κ q b o b place γ part (omega arith, omega arith) Rest (put le inside long)
      (S.coded.code d) (S.coded.code d)) $
      await ! tt $ pick ! (λ δ. rewrite ! 0 (λ n. lent n δ) count refl $ now ! $ show ! (Lent (to - from)) δ $ done !))

pub part_mut_spec : {M : Type 1} → statement M
part_mut_spec 𝓤 𝓛 𝓜 𝓡 wired =
    let c = f.clauses 𝓛 𝓜.mem 𝓡.returns in let W = walk_of 𝓛 f.ended stayed c in
    let goes = Goes-dropped 𝓛 1 (plain (λ _. usize)) yes (λ κs x w. refl) in
    proved 𝓛 f.ended stayed c 𝓜 𝓡 (Goes-spent_ref 𝓛 1 (0 ∷ []) tt (plain (λ _. S)), (goes, (goes, tt)))
    f.Key.name code.function (code.unfolded 𝓤 𝓛.H 𝓜 𝓡 wired)
    (λ κs. (mut_vals, (uint_vals w64, (uint_vals w64, tt))))
    (λ κs. (mut_Tells (named 0) κs.0 S, (uint_Tells w64, (uint_Tells w64, tt))))
    (λ κs qs bounds a _ are.
    let κ = κs.0 in let q = qs.0 in let b = a.0.ref_ptr.0 in let o = a.0.ref_ptr.1 in let γ = a.0.ghost_name in
    let d = a.0.now in let from = a.1.0 in let to = a.1.1.0 in
    let y : W.Ghost = ((κs, qs, bounds, a, (mut_vals a.0, (uint_vals w64 from, (uint_vals w64 to, tt)))), tt) in
    qed 𝓛 (
    ((‵ (flft κ q) ⊛ ‵ ftrue) ⊛ ‵ (owns (MutRef (named 0) κ S ∷ usize ∷ usize ∷ []) a y.0.4))
    ∷ raw (fact 𝓤 ((from ≤ to) × (to ≤ 2270)))
    ∷ []
    ) ∵
    move ! (1 ∷ []) $ heard ! _ (λ ok. split ! $ split ! $ move ! (2 ∷ []) $ fsplit ! $ keep ! (0 ∷ 2 ∷ []) $
    enter ! _ _ _ _ _ $
    alloc_all ! (λ l. pass_all ! refl
    ((tt, tt), ((tt, record { fits = are.1.0.1 }), ((tt, record { fits = are.1.1.0.1 }), tt))) $
    -- [the reference; its token; the locals]
    sets ! (addr ! (through ! refl (fld ! refl (stop !)))) refl (tt, tt) $
    sets ! (bin ! (get ! refl) (get ! refl) tt) refl (tt, tt) $
    sets ! (bin ! (get ! refl) (get ! refl) ok.0) refl (tt, record { fits = omega arith }) $
    sets ! (addr ! (through ! refl (stop !))) refl (tt, tt) $
    sets ! (agg ! (and_then ! (get ! refl) (and_then ! (get ! refl) (no_more !)))) refl
    (tt, (tt, (record { fits = omega arith }, tt))) $
    use2 𝓛 (later (some (lent 𝓛 κ q b o γ d from to (to - from))))
    (lends 𝓛 κ q b o γ d from to ok.0 ok.1 (mut_vals a.0)) $
    await ! tt $ pick ! (λ δ. split3 ! $
    returns ! (look_at ! 0 refl) $ free_all ! refl $
    suffices ! _ (ends_at 𝓛 f.ended stayed c y (slice_val (b, from + start o) (to - from))
    (record { ref_ptr = (b, from + start o); ghost_name = δ; now = part_of d.bytes from to })
    (tt, (tt, (tt, tt))) (tt, (tt, (tt, tt)))) $
    nothing ! $ nothing ! $ fjoin ! $ nothing ! $ fjoin ! $ nothing ! $ fjoin ! $ join ! $
    nothing ! $ move ! (2 ∷ 0 ∷ []) $ join ! $ join ! $ frame ! $ says ! refl $ done !))))
