-- What `flatten` leaves, as facts for its callers: few and small edges, which are the path's, and behind them what was there. What a segment leaves in a
-- buffer of its own.
use mathlib.Core.Path.{◌≡◌, sym, ap, subst, ◌∙◌}
use mathlib.Core.List.{List}
use Prim.Native.Nat.{ℕ, ◌+◌, ◌-◌, ◌*◌, ◌≤◌, ◌<◌}
use native.Mathlib.Nat.{zero-add}
use native.Mathlib.Omega.{arith}
use lib.ListN.{length, drop, get_or, length-drop}
use lib.IntN.{ℤ, pos}
use lib.Seq.{get_or-drop}
use Rattle.std.specs.Prelude.{Ok}
use Rattle.lists.specs.Lists.{tab}
use Rattle.lists.proofs.Laws.{tab_at, tab_ext}
use Rattle.path.specs.declared.FixedMatrix.{FixedMatrix}
use Rattle.path.specs.declared.Point.{Point}
use Rattle.path.specs.declared.Curve.{Curve}
use Rattle.path.specs.declared.Edge.{Edge}
use Rattle.path.specs.Limits.{Limited}
use Rattle.path.specs.Segments.{fault_to}
use Rattle.path.specs.Curves.{curve_edges, path_edges}
use Rattle.path.specs.Stored.{edge_at, edges_of, put_edges, Small}
use Rattle.outline.specs.Asked.{OnGrid, Drawable}
use Rattle.outline.proofs.Counts.{curve_count, path_count}
use Rattle.outline.proofs.Every.{Every, every_at}
use Rattle.outline.proofs.Sizes.{curve_small, path_small}
use Rattle.outline.proofs.Stores.{puts_length, puts_read, puts_drop}

-- q holds the r edges of the path, and is l behind them
pub record Flattened (m : FixedMatrix) (ss cs : List ℕ) (n : ℕ) (l q : List ℤ) (r : ℕ) : Type 0 where
  pub few : r ≤ 2049
  pub room : length q ≡ length l
  pub edges : edges_of q r ≡ path_edges m ss cs n
  pub small : (i : ℕ) → i < r → Small (edge_at q i)
  pub rest : drop (r * 4) q ≡ drop (r * 4) l

pub flattened : (m : FixedMatrix) (ss cs : List ℕ) (n : ℕ) (l q : List ℤ) (r : ℕ) → n ≤ 128 → Limited m → fault_to m ss cs n ≡ Ok tt → 8196 ≤ length l
    → q ≡ put_edges l 0 (path_edges m ss cs n) → r ≡ length (path_edges m ss cs n) → Flattened m ss cs n l q r
flattened m ss cs n l q r few limited accepted room e f =
    let es = path_edges m ss cs n in
    let c = path_count m ss cs n in
    let same : edges_of q r ≡ es = ap (λ (k : ℕ). edges_of q k) f ∙ ap (λ (p : List ℤ). edges_of p (length es)) e ∙ puts_read es l (omega arith) in
    record {
      few = omega arith;
      room = ap length e ∙ puts_length es l 0;
      edges = same;
      small = every_at r (edge_at q) (subst (λ (ds : List Edge). Every Small ds) (sym same) (path_small m ss cs limited n accepted));
      rest = ap (drop (r * 4)) e ∙ puts_drop es l 0 (r * 4) (omega arith);
    }

-- zeros behind them, where all was zero
pub clear_behind : {m : FixedMatrix} {ss cs : List ℕ} {n : ℕ} {l q : List ℤ} {r : ℕ} → Flattened m ss cs n l q r → l ≡ tab (length l) (λ j. pos 0)
    → drop (r * 4) q ≡ tab (length q - r * 4) (λ j. pos 0)
clear_behind {l} {q} {r} h z =
    tab_ext (pos 0) (drop (r * 4) q) (length q - r * 4) (λ j. pos 0) (length-drop (r * 4) q)
    (λ j k. ap (λ (p : List ℤ). get_or p j (pos 0)) h.rest ∙ get_or-drop (r * 4) l j (pos 0) ∙ ap (λ (p : List ℤ). get_or p (r * 4 + j) (pos 0)) z
    ∙ tab_at (length l) (λ i. pos 0) (r * 4 + j) (pos 0) (omega (arith, h.room)))

-- q holds the r edges of a curve from o, and nothing is asked of what stands behind them
pub record Held (es : List Edge) (q : List ℤ) (r : ℕ) : Type 0 where
  pub few : r ≤ 16
  pub room : r * 4 ≤ length q
  pub edges : edges_of q r ≡ es
  pub small : (i : ℕ) → i < r → Small (edge_at q i)

pub curve_held : (o : Point) (c : Curve) (l q : List ℤ) (r : ℕ) → OnGrid o → Drawable c → 64 ≤ length l
    → (q ≡ put_edges l 0 (curve_edges o c)) × (r ≡ 0 + length (curve_edges o c)) → Held (curve_edges o c) q r
curve_held o c l q r near h room e =
    let es = curve_edges o c in
    let few = curve_count o c in
    let count : r ≡ length es = e.1 ∙ zero-add (length es) in
    let same : edges_of q r ≡ es = ap (λ (k : ℕ). edges_of q k) count ∙ ap (λ (p : List ℤ). edges_of p (length es)) e.0 ∙ puts_read es l (omega arith) in
    let long : length q ≡ length l = ap length e.0 ∙ puts_length es l 0 in
    record {
      few = omega (arith, count, few);
      room = omega (arith, count, few, long, room);
      edges = same;
      small = every_at r (edge_at q) (subst (λ (ds : List Edge). Every Small ds) (sym same) (curve_small o c near h));
    }
