-- Boxes on the surface, and the loop over the draws.
use mathlib.Core.Path.{◌≡◌, sym, ap₂, ◌∙◌}
use mathlib.Core.List.{List, foldl, foldl-append}
use mathlib.Core.Bool.{true, false}
use Prim.Native.Nat.{ℕ, ◌+◌, ◌≤◌, ◌<◌}
use native.Mathlib.Numerals.{add-one}
use native.Mathlib.Omega.{arith}
use Rattle.lists.specs.Lists.{upto}
use Rattle.path.specs.Boxes.{box_of}
use Rattle.rect.specs.declared.Rect.{Rect}
use Rattle.rect.specs.Rects.{smallest, join_of, On}
use Rattle.rect.proofs.Laws.{either, join_on}
use Rattle.scene.specs.Blocks.{draw_of}
use Rattle.scene.specs.Header.{count_of, edition_of}
use Rattle.engine.specs.Picture.{draw_edges}
use Rattle.engine.proofs.Steps.{edges_on}
use Rattle.damage.specs.Damage.{has, changed_at, draw_box, box_at, boxes_at}
use Rattle.damage.proofs.Changes.{box_there}

-- ---- a box lies on the surface
pub box_on : (w h : ℕ) (s : List ℕ) (i : ℕ) → ((box_at w h s i).x1 ≤ w) × ((box_at w h s i).y1 ≤ h)
unfolding box_at draw_box
box_on w h s i = either (has s i) (λ e. rw e (edges_on w h (draw_edges (edition_of s) (draw_of s i)))) (λ e. rw e (omega arith, omega arith))

-- what `box_at` answers
pub box_answer : (w h : ℕ) (s d : List ℕ) (edition i : ℕ) (r : Rect) → i < count_of s → edition ≡ edition_of s → d ≡ draw_of s i
    → r ≡ box_of w h (draw_edges edition d) → (r ≡ box_at w h s i) × ((r.x1 ≤ w) × (r.y1 ≤ h))
unfolding draw_box
box_answer w h s d edition i r l f e o =
    let on = edges_on w h (draw_edges edition d) in
    (o ∙ ap₂ (λ (n : ℕ) (z : List ℕ). box_of w h (draw_edges n z)) f e ∙ sym (box_there w h s i l), (rw o on.0, rw o on.1))

-- ---- the loop over the draws
pub area_turn : (w h : ℕ) (old new : List ℕ) (i : ℕ) (a b : Rect) → a ≡ smallest (upto i (boxes_at w h old new)) → b ≡ foldl join_of a (boxes_at w h old new i)
    → b ≡ smallest (upto (i + 1) (boxes_at w h old new))
area_turn w h old new i a b e g = g ∙ rw (add-one, foldl-append, e)

pub both_joined : (w h : ℕ) (old new : List ℕ) (i : ℕ) (a p q j r : Rect) → changed_at old new i ≡ true → p ≡ box_at w h old i → q ≡ box_at w h new i
    → j ≡ join_of a p → r ≡ join_of j q → On w h a → (p.x1 ≤ w) × (p.y1 ≤ h) → (q.x1 ≤ w) × (q.y1 ≤ h)
    → (r ≡ foldl join_of a (boxes_at w h old new i)) × On w h r
both_joined w h old new i a p q j r c e f g k o m n =
    let s : On w h j = rw g (join_on w h a p o m.0 m.1) in
    let t : On w h r = rw k (join_on w h j q s n.0 n.1) in
    (k ∙ rw (g, e, f, c), t)

pub none_joined : (w h : ℕ) (old new : List ℕ) (i : ℕ) (a : Rect) → changed_at old new i ≡ false → a ≡ foldl join_of a (boxes_at w h old new i)
none_joined w h old new i a c = rw c
