-- The array of a line's bytes in memory is the bytes side by side, and back. The proof by hand that lends a part of it
-- uses this.
use Rattle.vbi_line.proofs.Common.{◌≡◌, ℕ, ◌+◌, ◌-◌, ◌≤◌, [], ◌∷◌, ◌++◌, length, drop, refl, sym, ap, ◌∙◌, arith}
use Rattle.vbi_line.proofs.Common.{length-take-le, take_at, drop-drop, Ura, SProp, ent, sep, Fml, ftrue, Logic, sem}
use Rattle.vbi_line.proofs.Common.{cells, ‵, ◌⊛◌, raw, ◌$◌, ◌∵◌, !, qed, move, done, rewrite, split, fsplit, fjoin}
use Rattle.vbi_line.proofs.Common.{use1, use2, Array, u8, mem, nothing, LineBytes, with_part, List, take}
use Rattle.std.proofs.lemmas.List.{take-append-drop, length-drop, length-append}
use mir.Syntax.{Ty, ty_array, ty_int, ty_struct, w8}
use base.Logic.{guard}
use base.Fraction.{full_share}
use base.Fml.{fsep, feq}
use prog.Memory.{align, up}
use types.Kit.{drop as let_go, check, feq_l, feq_i}
use denote.Array.{Array-Lawful}
use denote.ArrayMemory.{Array-apart, Array-whole}
use denote.Index.{row, whole_in, whole_out}
use denote.Memory.{part_at}
use denote.Plain.{uint_Lawful}
use denote.Struct.Declared.{shape}
use denote.Struct.Members.{Member, raw_tys, lawful_Lones}
use denote.Struct.Parts.{Struct-left, left_Struct}
use denote.Struct.Recorded.{Recorded-part}
use denote.Struct.Struct.{Struct}
use Rattle.vbi_line.specs.contracts.store.LineBytes.{the_row, the_type}

-- ---- the lists

-- the elements from one place up to another
abbrev pub part_of : List ℕ → ℕ → ℕ → List ℕ
part_of xs from to = take (to - from) (drop from xs)

-- a list is the elements before a part, the part, and those after it
pub in_parts : (xs : List ℕ) (from to : ℕ) → from ≤ to → take from xs ++ (part_of xs from to ++ drop to xs) ≡ xs
in_parts xs from to le =
    let ends : from + (to - from) ≡ to = omega arith in
    let behind : drop to xs ≡ drop (to - from) (drop from xs)
    = ap (λ k. drop k xs) (sym ends) ∙ sym (drop-drop (to - from) from xs) in
    ap (λ l. take from xs ++ (part_of xs from to ++ l)) behind
    ∙ ap (λ l. take from xs ++ l) (take-append-drop (to - from) (drop from xs))
    ∙ take-append-drop from xs

-- how long a part is
pub length-part : (xs : List ℕ) (from to : ℕ) → from ≤ to → to ≤ length xs → length (part_of xs from to) ≡ to - from
length-part xs from to le inside = grind (arith, length-drop, length-take-le)

-- a part is written over by as many bytes
pub with_part-same : (xs : List ℕ) (from to : ℕ) (ws : List ℕ) → length ws ≡ to - from
    → take from xs ++ (ws ++ drop to xs) ≡ with_part xs from to ws
with_part-same xs from to ws long = grind (arith, take_at)

-- a list with a part written over is as long as it was
pub length-with_part : (xs : List ℕ) (from to : ℕ) (ws : List ℕ) → from ≤ to → to ≤ length xs → length ws ≡ to - from
    → length (with_part xs from to ws) ≡ length xs
length-with_part xs from to ws le inside long =
    grind (arith, with_part-same, length-append, length-take-le, length-drop)

-- ---- the memory

-- the type of the array
abbrev array_ty : Ty
array_ty = ty_array (ty_int w8) 2270

-- the one field of the struct
abbrev fields : List Member
fields = record { row = Array u8 2270; ty = array_ty } ∷ []

-- where the bytes begin, in a struct at the offset o
abbrev pub start : ℕ → ℕ
start o = o + up (align array_ty) 0

as_tuple : (d : LineBytes) (b o : ℕ)
    → part_at the_row full_share d b o ≡ part_at (Struct (shape the_type)) full_share (d.bytes, tt) b o
as_tuple d b o = Recorded-part (Struct (shape the_type)) the_type.D the_type.to the_type.to_one full_share d b o

module _ {M : Type 1} {𝓤 : Ura M} (𝓛 : Logic 𝓤) (b o : ℕ) where
  open 𝓛 use {H}

  -- what is left of the struct while its bytes are out
  abbrev pub Left : SProp 𝓤
  Left = H.left full_share (ty_struct [] (raw_tys fields)) (raw_tys fields) b o

  pub bytes_out : (d : LineBytes) → ent 𝓤 (sem 𝓛 ((mem the_row).own_at d b o))
      (guard 𝓤 (length d.bytes ≡ 2270) (sep 𝓤 (sem 𝓛 (cells (mem u8) d.bytes b (start o))) Left))
  bytes_out d =
      qed 𝓛 (‵ (part_at the_row full_share d b o) ∷ []) ∵
      rewrite ! 0 (λ (f : Fml). ‵ f) (as_tuple d b o) refl $
      use1 𝓛 (‵ (fsep (part_at (Array u8 2270) full_share d.bytes b (start o)) ftrue) ⊛ raw Left)
      (Struct-left 𝓛 full_share the_type.name fields
      (lawful_Lones 𝓛 fields (Array-Lawful 𝓛 u8 (uint_Lawful 𝓛 w8) 2270, tt)) (d.bytes, tt) b o) $
      split ! $ fsplit ! $ move ! (1 ∷ []) $ let_go ! $
      use1 𝓛 (‵ (fsep (feq ℕ (length d.bytes) 2270) (row u8 full_share d.bytes b (start o))))
      (Array-apart 𝓛 u8 full_share tt 2270 d.bytes b (start o)) $ fsplit ! $ feq_l ! (λ long.
      use1 𝓛 (‵ (cells (mem u8) d.bytes b (start o))) (whole_in 𝓛 u8 d.bytes b (start o)) $ check ! long $ done !)

  pub bytes_in : (d : LineBytes) → length d.bytes ≡ 2270
      → ent 𝓤 (sep 𝓤 (sem 𝓛 (cells (mem u8) d.bytes b (start o))) Left) (sem 𝓛 ((mem the_row).own_at d b o))
  bytes_in d long =
      qed 𝓛 (‵ (cells (mem u8) d.bytes b (start o)) ∷ raw Left ∷ []) ∵
      use1 𝓛 (‵ (row u8 full_share d.bytes b (start o))) (whole_out 𝓛 u8 d.bytes b (start o)) $
      feq_i ! ℕ (length d.bytes) 2270 long $ fjoin ! $
      use1 𝓛 (‵ (part_at (Array u8 2270) full_share d.bytes b (start o)))
      (Array-whole 𝓛 u8 full_share 2270 d.bytes b (start o)) $
      nothing ! $ move ! (1 ∷ 0 ∷ []) $ fjoin ! $
      use2 𝓛 (‵ (part_at (Struct (shape the_type)) full_share (d.bytes, tt) b o))
      (left_Struct 𝓛 full_share the_type.name fields (d.bytes, tt) b o) $
      rewrite ! 0 (λ (f : Fml). ‵ f) (sym (as_tuple d b o)) refl $ done !
