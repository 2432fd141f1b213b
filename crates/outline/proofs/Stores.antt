-- Edges stored in a run of numbers: they are read back, and nothing else changes.
use mathlib.Core.Path.{◌≡◌, refl, sym, ap, ap₂, ◌∙◌}
use mathlib.Core.List.{List, [], ◌∷◌, ◌++◌, append_assoc, append-nil}
use mathlib.Core.Bool.{true, false, ◌&&◌}
use Prim.Native.Nat.{ℕ, zero, suc, ◌+◌, ◌*◌, ◌≤◌, ◌<◌}
use native.Mathlib.Nat.{not-suc-le-zero, suc-add, add-suc, add-zero}
use native.Mathlib.Omega.{arith}
use lib.ListN.{get_or, set, length, drop, length-append, length-set}
use lib.IntN.{ℤ, pos}
use lib.Seq.{drop-set-lt}
use Rattle.lists.specs.Lists.{tab}
use Rattle.lists.proofs.Laws.{four_before, four_each, tab_ext, upto_same}
use Rattle.path.specs.declared.Point.{Point}
use Rattle.path.specs.declared.Edge.{Edge}
use Rattle.path.specs.Curves.{equal, edge, edge_between}
use Rattle.path.specs.Stored.{edge_at, edges_of, put_edge, put_edges}

-- ---- one edge
put_length : (l : List ℤ) (i : ℕ) (e : Edge) → length (put_edge l i e) ≡ length l
put_length l i e = simp length-set

edge_kept : (l : List ℤ) (n : ℕ) (e : Edge) (k : ℕ) → k < n → edge_at (put_edge l n e) k ≡ edge_at l k
edge_kept l n e k m =
    let h0 : k * 4 < n * 4 = omega arith in
    let h1 : k * 4 + 1 < n * 4 = omega arith in
    let h2 : k * 4 + 2 < n * 4 = omega arith in
    let h3 : k * 4 + 3 < n * 4 = omega arith in
    simp four_before

pub edge_put : (l : List ℤ) (n : ℕ) (e : Edge) → n * 4 + 3 < length l → edge_at (put_edge l n e) n ≡ e
edge_put l n e h =
    let f = four_each l (n * 4) e.x0 e.y0 e.x1 e.y1 (pos 0) h in
    rw (f.0, f.1, f.2, f.3)

-- ---- the edge between two points, unless they are equal

-- ---- a list of edges
pub puts_length : (es : List Edge) (l : List ℤ) (i : ℕ) → length (put_edges l i es) ≡ length l
puts_length [] l i = refl
puts_length (e ∷ es) l i = puts_length es (put_edge l i e) (suc i) ∙ put_length l i e

puts_append : (es fs : List Edge) (l : List ℤ) (i : ℕ) → put_edges l i (es ++ fs) ≡ put_edges (put_edges l i es) (i + length es) fs
puts_append [] fs l i = rw (add-zero i)
puts_append (e ∷ es) fs l i =
    puts_append es fs (put_edge l i e) (suc i)
    ∙ ap (λ (n : ℕ). put_edges (put_edges (put_edge l i e) (suc i) es) n fs) (suc-add i (length es) ∙ sym (add-suc i (length es)))

-- said in another way
pub puts_same : {es fs : List Edge} {q : List ℤ} {r : ℕ} (l : List ℤ) (n : ℕ) → es ≡ fs → (q ≡ put_edges l n es) × (r ≡ n + length es)
    → (q ≡ put_edges l n fs) × (r ≡ n + length fs)
puts_same l n e h = (h.0 ∙ ap (put_edges l n) e, h.1 ∙ ap (λ (gs : List Edge). n + length gs) e)

-- fs after es
pub puts_more : (es fs : List Edge) {gs : List Edge} {p q : List ℤ} {i j : ℕ} (l : List ℤ) (n : ℕ) → es ++ fs ≡ gs
    → (p ≡ put_edges l n es) × (i ≡ n + length es) → (q ≡ put_edges p i fs) × (j ≡ i + length fs) → (q ≡ put_edges l n gs) × (j ≡ n + length gs)
puts_more es fs {q = q} {j = j} l n e h k =
    puts_same l n e (k.0 ∙ rw (h.0, h.1) (sym (puts_append es fs l n)), k.1 ∙ rw (h.1, length-append es fs) (omega arith))

puts_kept : (es : List Edge) (l : List ℤ) (i k : ℕ) → k < i → edge_at (put_edges l i es) k ≡ edge_at l k
puts_kept [] l i k h = refl
puts_kept (e ∷ es) l i k h = puts_kept es (put_edge l i e) (suc i) k (omega arith) ∙ edge_kept l i e k h

abbrev nowhere : Edge
nowhere = record { x0 = pos 0; y0 = pos 0; x1 = pos 0; y1 = pos 0 }

puts_at : (es : List Edge) (l : List ℤ) (i k : ℕ) → (i + length es) * 4 ≤ length l → k < length es → edge_at (put_edges l i es) (i + k) ≡ get_or es k nowhere
puts_at [] l i k h m = absurd (not-suc-le-zero m)
puts_at (e ∷ es) l i zero h m =
    ap (edge_at (put_edges (put_edge l i e) (suc i) es)) (add-zero i)
    ∙ puts_kept es (put_edge l i e) (suc i) i (omega arith) ∙ edge_put l i e (omega arith)
puts_at (e ∷ es) l i (suc k) h m =
    ap (edge_at (put_edges (put_edge l i e) (suc i) es)) (add-suc i k ∙ sym (suc-add i k))
    ∙ puts_at es (put_edge l i e) (suc i) k (rw (put_length l i e) (omega arith)) (omega arith)

pub puts_read : (es : List Edge) (l : List ℤ) → length es * 4 ≤ length l → edges_of (put_edges l 0 es) (length es) ≡ es
puts_read es l h =
    sym (tab_ext nowhere es (length es) (edge_at (put_edges l 0 es)) refl
    (λ k m. sym (ap (edge_at (put_edges l 0 es)) (omega arith) ∙ puts_at es l 0 k (omega arith) m)))

-- n edges, and others after them
tab_more : (m n : ℕ) (f : ℕ → Edge) → tab (n + m) f ≡ tab n f ++ tab m (λ k. f (n + k))
tab_more zero n f = ap (λ (k : ℕ). tab k f) (add-zero n) ∙ sym (append-nil (tab n f))
tab_more (suc m) n f =
    ap (λ (k : ℕ). tab k f) (add-suc n m) ∙ ap (λ (es : List Edge). es ++ (f (n + m) ∷ [])) (tab_more m n f)
    ∙ append_assoc (tab n f) (tab m (λ k. f (n + k))) (f (n + m) ∷ [])

pub puts_after : (es : List Edge) (l : List ℤ) (n : ℕ) → (n + length es) * 4 ≤ length l → edges_of (put_edges l n es) (n + length es) ≡ edges_of l n ++ es
puts_after es l n h =
    let q = put_edges l n es in
    tab_more (length es) n (edge_at q)
    ∙ ap₂ ◌++◌ (upto_same n (λ k. edge_at q k ∷ []) (λ k. edge_at l k ∷ []) (λ k m. ap (λ (e : Edge). e ∷ []) (puts_kept es l n k m)))
    (sym (tab_ext nowhere es (length es) (λ k. edge_at q (n + k)) refl (λ k m. sym (puts_at es l n k h m))))

-- what stands after them
put_drop : (l : List ℤ) (i n : ℕ) (e : Edge) → i * 4 + 3 < n → drop n (put_edge l i e) ≡ drop n l
put_drop l i n e h =
    drop-set-lt n (set (set (set l (i * 4) e.x0) (i * 4 + 1) e.y0) (i * 4 + 2) e.x1) (i * 4 + 3) e.y1 (omega arith)
    ∙ drop-set-lt n (set (set l (i * 4) e.x0) (i * 4 + 1) e.y0) (i * 4 + 2) e.x1 (omega arith)
    ∙ drop-set-lt n (set l (i * 4) e.x0) (i * 4 + 1) e.y0 (omega arith)
    ∙ drop-set-lt n l (i * 4) e.x0 (omega arith)

pub puts_drop : (es : List Edge) (l : List ℤ) (i n : ℕ) → (i + length es) * 4 ≤ n → drop n (put_edges l i es) ≡ drop n l
puts_drop [] l i n h = refl
puts_drop (e ∷ es) l i n h = puts_drop es (put_edge l i e) (suc i) n (omega arith) ∙ put_drop l i n e (omega arith)
