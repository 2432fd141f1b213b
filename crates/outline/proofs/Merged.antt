-- One edge from the least corner to the greatest in place of many: the box is the same, whatever edges follow.
use mathlib.Core.Path.{◌≡◌, sym, ap, ◌∙◌}
use mathlib.Core.Bool.{Bool, true, false, cond}
use mathlib.Core.List.{List, [], ◌∷◌, ◌++◌, foldl, foldl-append, append_assoc, append-nil}
use Prim.Native.Nat.{ℕ, ◌+◌, ◌*◌, ◌≤◌, ◌<◌}
use native.Mathlib.Nat.{not-suc-le-zero}
use native.Mathlib.Omega.{arith}
use lib.ListN.{length, length-append}
use lib.IntN.{ℤ}
use lib.Signed.{le_z, ◌≤ℤ◌}
use Rattle.fixed.proofs.Tests.{is_true, ≤ℤ_trans}
use Rattle.lists.proofs.Laws.{tab_length}
use Rattle.path.specs.declared.Edge.{Edge}
use Rattle.path.specs.Boxes.{outer, end_of, outer_of, box_of}
use Rattle.path.specs.Stored.{edge_at, edges_of, put_edge, put_edges}
use Rattle.outline.specs.Alike.{Alike}
use Rattle.outline.specs.Corners.{corners, pixels_of}
use Rattle.outline.proofs.Stores.{edge_put, puts_after}
use Rattle.outline.proofs.Outermost.{outer_first, some_box}

-- ---- edges that serve for others
pub alike_same : {es fs : List Edge} → es ≡ fs → Alike es fs
alike_same e = record { box = λ gs w h. ap (λ (ds : List Edge). box_of w h (ds ++ gs)) e }

pub alike_trans : {es fs hs : List Edge} → Alike es fs → Alike fs hs → Alike es hs
alike_trans a b = record { box = λ gs w h. a.box gs w h ∙ b.box gs w h }

pub alike_more : (es fs hs : List Edge) → Alike es fs → Alike (es ++ hs) (fs ++ hs)
alike_more es fs hs a = record {
  box = λ gs w h. ap (box_of w h) (append_assoc es hs gs) ∙ a.box (hs ++ gs) w h ∙ sym (ap (box_of w h) (append_assoc fs hs gs));
}

pub alike_box : (es fs : List Edge) (w h : ℕ) → Alike es fs → box_of w h es ≡ box_of w h fs
alike_box es fs w h a = sym (ap (box_of w h) (append-nil es)) ∙ a.box [] w h ∙ ap (box_of w h) (append-nil fs)

-- ---- the least is at most the greatest
end_order : (axis : Bool) (e : Edge) → end_of false axis e ≤ℤ end_of true axis e
end_order true e = ≤ℤ_trans (outer_first false e.y0 e.y1) (outer_first true e.y0 e.y1)
end_order false e = ≤ℤ_trans (outer_first false e.x0 e.x1) (outer_first true e.x0 e.x1)

abbrev go_on : Bool → Bool → ℤ → List Edge → ℤ
go_on greater axis m es = foldl (λ n d. outer greater n (end_of greater axis d)) m es

fold_order : (axis : Bool) (es : List Edge) (m n : ℤ) → m ≤ℤ n → go_on false axis m es ≤ℤ go_on true axis n es
fold_order axis [] m n h = h
fold_order axis (e ∷ es) m n h =
    fold_order axis es (outer false m (end_of false axis e)) (outer true n (end_of true axis e))
    (≤ℤ_trans (outer_first false m (end_of false axis e)) (≤ℤ_trans h (outer_first true n (end_of true axis e))))

ends_order : (axis : Bool) (es : List Edge) → 0 < length es → outer_of false axis es ≤ℤ outer_of true axis es
unfolding outer_of
ends_order axis [] h = absurd (not-suc-le-zero h)
ends_order axis (e ∷ es) h = fold_order axis es (end_of false axis e) (end_of true axis e) (end_order axis e)

-- ---- the edge from the least corner to the greatest
outer_ordered : (greater : Bool) (a b : ℤ) → a ≤ℤ b → outer greater a b ≡ cond greater b a
unfolding outer
outer_ordered greater a b h = rw (is_true (le_z a b) h.le)

corner_ends : (greater axis : Bool) (es : List Edge) → 0 < length es → end_of greater axis (corners es) ≡ outer_of greater axis es
corner_ends true true es h = outer_ordered true _ _ (ends_order true es h)
corner_ends true false es h = outer_ordered true _ _ (ends_order false es h)
corner_ends false true es h = outer_ordered false _ _ (ends_order true es h)
corner_ends false false es h = outer_ordered false _ _ (ends_order false es h)

outer_append : (greater axis : Bool) (es gs : List Edge) → 0 < length es → outer_of greater axis (es ++ gs) ≡ go_on greater axis (outer_of greater axis es) gs
unfolding outer_of
outer_append greater axis [] gs h = absurd (not-suc-le-zero h)
outer_append greater axis (e ∷ es) gs h = foldl-append (λ n d. outer greater n (end_of greater axis d)) (end_of greater axis e) es gs

corner_append : (greater axis : Bool) (es gs : List Edge) → 0 < length es → outer_of greater axis (corners es ∷ gs) ≡ outer_of greater axis (es ++ gs)
unfolding outer_of
corner_append greater axis es gs h =
    ap (λ (m : ℤ). go_on greater axis m gs) (corner_ends greater axis es h) ∙ sym (outer_append greater axis es gs h)

same_box : (w h : ℕ) (es fs : List Edge) → ((greater axis : Bool) → outer_of greater axis es ≡ outer_of greater axis fs)
    → pixels_of w h (corners es) ≡ pixels_of w h (corners fs)
same_box w h es fs e =
    ap (pixels_of w h) (λ i. record { x0 = e false false i; y0 = e false true i; x1 = e true false i; y1 = e true true i })

merged : (es : List Edge) → 0 < length es → Alike (corners es ∷ []) es
merged es n = record {
  box = λ gs w h.
      some_box w h (corners es ∷ gs) (omega arith)
      ∙ same_box w h (corners es ∷ gs) (es ++ gs) (λ greater axis. corner_append greater axis es gs n)
      ∙ sym (some_box w h (es ++ gs) (rw (length-append es gs) (omega arith)));
}

-- ---- in a run of numbers
module _ (l q : List ℤ) (n : ℕ) where
  pub merged_stored : 0 < n → 3 < length l → q ≡ put_edge l 0 (corners (edges_of l n)) → Alike (edges_of q 1) (edges_of l n)
  merged_stored h k e =
      let es = edges_of l n in
      alike_trans (alike_same (ap (λ (p : List ℤ). edges_of p 1) e ∙ ap (λ (d : Edge). d ∷ []) (edge_put l 0 (corners es) (omega arith))))
      (merged es (rw (tab_length n (edge_at l)) h))

  pub stored_alike : (es : List Edge) (r : ℕ) → q ≡ put_edges l n es → r ≡ n + length es → (n + length es) * 4 ≤ length l
      → Alike (edges_of q r) (edges_of l n ++ es)
  stored_alike es r e f h = alike_same (rw (e, f) (puts_after es l n h))
