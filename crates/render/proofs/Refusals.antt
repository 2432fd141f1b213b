-- What holds where nothing is refused, and how refusals are chained.
use mathlib.Core.Path.{◌≡◌, refl, sym, ap, ◌∙◌}
use mathlib.Core.List.{List}
use mathlib.Core.Bool.{Bool, true, false, cond, not, ◌&&◌, true≢false}
use Prim.Native.Nat.{ℕ, ◌-◌, ◌*◌, ◌≤◌, ◌<◌}
use native.Mathlib.Omega.{arith}
use lib.IntN.{ℤ, pos}
use lib.ListN.{length, replicate, take, drop}
use lib.Dec.{eqb, ltb}
use borrow.Author.Tests.{eq-eqb, ne_eqb, eqb-false, eqb-true, ltb-false, le-ltb, lt-ltb, not-false}
use Rattle.codes.specs.Codes.{illegal_argument, unsupported_image_format, out_of_memory}
use Rattle.codes.proofs.Refusals.{refuses, number_refuses}
use Rattle.codes.specs.Number.{number_of}
use Rattle.codes.proofs.First.{sooner_first, sooner_second, sooner_none}
use Rattle.lists.proofs.Laws.{part_length}
use Rattle.rect.specs.declared.Rect.{Rect}
use Rattle.rect.specs.Rects.{On, whole}
use Rattle.rect.proofs.Laws.{either}
use Rattle.scene.specs.Header.{width_of, height_of, edition_of}
use Rattle.std.specs.Prelude.{Result, Ok, Err}
use Rattle.scene.specs.declared.Fault.{Fault}
use Rattle.scene.specs.Rules.{scene_fault}
use Rattle.scene.specs.Blocks.{draw_of}
use Rattle.scene.proofs.Accepted.{accepted_scene, draws_passed, asks_lent}
use Rattle.engine.specs.Rows.{MaskForScene}
use Rattle.render.specs.declared.Refusal.{Refusal}
use Rattle.render.specs.Answers.{Mask, mask_wrong, nothing, refuse, refusal_of, or_else, scene_refusal, lent_refusal, draw_refusal, size_refusal}
use Rattle.render.specs.Answers.{redraw_refusal}

-- ---- a chain of refusals
-- f answers the first of two, k the second
pub first_refused : (f g h : Refusal) → f ≡ g → (f.code ≡ 0 → ⊥) → f ≡ or_else g h
first_refused = sooner_first (λ f. f.code)

pub first_passed : (f g k h : Refusal) → f ≡ g → f.code ≡ 0 → k ≡ h → k ≡ or_else g h
first_passed = sooner_second (λ f. f.code)

pub else_fine : (f g : Refusal) → (or_else f g).code ≡ 0 → (f.code ≡ 0) × (g.code ≡ 0)
else_fine = sooner_none (λ f. f.code)

pass : (b : Bool) (f g : Refusal) → eqb f.code 0 ≡ false → (cond b f g).code ≡ 0 → (b ≡ false) × (g.code ≡ 0)
pass true f g n e = absurd (eqb-false f.code 0 n e)
pass false f g n e = (refl, e)

-- ---- each rule, where it holds
pub scene_fine : (masked : Bool) (s : List ℕ) (k : ℕ) → (scene_refusal masked s k).code ≡ 0 → scene_fault masked s ≡ Ok tt
unfolding scene_refusal
scene_fine masked s k e = by (scene_fault masked s) e
  where
    by : (r : Result Unit Fault) → (refusal_of k r).code ≡ 0 → r ≡ Ok tt
    by (Ok tt) h = refl
    by (Err f) h = absurd (refuses (number_of f.code) (number_refuses f.code) h)

pub scene_passes : (masked : Bool) (s : List ℕ) (k : ℕ) → scene_fault masked s ≡ Ok tt → scene_refusal masked s k ≡ nothing
unfolding scene_refusal
scene_passes masked s k e = rw e

pub scene_refused : (masked : Bool) (s : List ℕ) (k : ℕ) (f : Fault) → scene_fault masked s ≡ Err f
    → scene_refusal masked s k ≡ refuse (number_of f.code) f.draw k
unfolding scene_refusal
scene_refused masked s k f e = rw e

-- a mask of the right length, or none
abbrev pub MaskFits : Mask → ℕ → Type 0
MaskFits m n = m.lent ≡ true → length m.bytes ≡ n

lent_right : (t : Bool) (n k : ℕ) → (t ≡ true → n ≡ k) → (t && not (eqb n k)) ≡ false
lent_right true n k h = rw (eq-eqb n k (h refl))
lent_right false n k h = refl

pub mask_right : (m : Mask) (n : ℕ) → MaskFits m n → mask_wrong m n ≡ false
mask_right m n = lent_right m.lent (length m.bytes) n

mask_fine : (t : Bool) (n k : ℕ) → (t && not (eqb n k)) ≡ false → t ≡ true → n ≡ k
mask_fine true n k h e = eqb-true n k (not-false _ h)
mask_fine false n k h e = absurd (true≢false (sym e))

module _ (w h : ℕ) (m : Mask) (surface scratch : ℕ) where
  pub lent_fine : (lent_refusal w h m surface scratch).code ≡ 0 → (surface ≡ 4 * (w * h)) × (MaskFits m (w * h) × (12300 ≤ scratch))
  unfolding lent_refusal
  lent_fine e =
      let p = pass (not (eqb surface (4 * (w * h)))) (refuse unsupported_image_format 64 0) _ refl e in
      let q = pass (mask_wrong m (w * h)) (refuse unsupported_image_format 64 0) _ refl p.1 in
      let r = pass (ltb scratch 12300) (refuse out_of_memory 64 0) _ refl q.1 in
      (eqb-true _ _ (not-false _ p.0), (mask_fine m.lent (length m.bytes) (w * h) q.0, ltb-false _ _ r.0))

  pub lent_wrong : (surface ≡ 4 * (w * h) → ⊥) → lent_refusal w h m surface scratch ≡ refuse unsupported_image_format 64 0
  unfolding lent_refusal
  lent_wrong n = rw (ne_eqb surface (4 * (w * h)) n)

  module _ (e : surface ≡ 4 * (w * h)) where
    pub mask_refused : mask_wrong m (w * h) ≡ true → lent_refusal w h m surface scratch ≡ refuse unsupported_image_format 64 0
    unfolding lent_refusal
    mask_refused t = rw (eq-eqb surface (4 * (w * h)) e, t)

    module _ (f : mask_wrong m (w * h) ≡ false) where
      pub lent_passes : 12300 ≤ scratch → lent_refusal w h m surface scratch ≡ nothing
      unfolding lent_refusal
      lent_passes l = rw (eq-eqb surface (4 * (w * h)) e, f, le-ltb scratch 12300 l)

      pub lent_short : scratch < 12300 → lent_refusal w h m surface scratch ≡ refuse out_of_memory 64 0
      unfolding lent_refusal
      lent_short l = rw (eq-eqb surface (4 * (w * h)) e, f, lt-ltb scratch 12300 l)

pub size_fine : (old new : List ℕ) → (size_refusal old new).code ≡ 0 → (width_of old ≡ width_of new) × (height_of old ≡ height_of new)
unfolding size_refusal
size_fine old new e =
    either (eqb (width_of old) (width_of new))
    (λ z.
    either (eqb (height_of old) (height_of new))
    (λ y. (eqb-true _ _ z, eqb-true _ _ y))
    (λ y. absurd (refuses illegal_argument refl (rw (z, y) at e))))
    (λ z. absurd (refuses illegal_argument refl (rw z at e)))

pub size_passes : (old new : List ℕ) → width_of old ≡ width_of new → height_of old ≡ height_of new → size_refusal old new ≡ nothing
unfolding size_refusal
size_passes old new e f = rw (eq-eqb (width_of old) (width_of new) e, eq-eqb (height_of old) (height_of new) f)

pub size_width : (old new : List ℕ) → (width_of old ≡ width_of new → ⊥) → size_refusal old new ≡ refuse illegal_argument 64 1
unfolding size_refusal
size_width old new n = rw (ne_eqb (width_of old) (width_of new) n)

pub size_height : (old new : List ℕ) → width_of old ≡ width_of new → (height_of old ≡ height_of new → ⊥) → size_refusal old new ≡ refuse illegal_argument 64 1
unfolding size_refusal
size_height old new e n = rw (eq-eqb (width_of old) (width_of new) e, ne_eqb (height_of old) (height_of new) n)

-- ---- what an accepted call has
pub record Ready (s : List ℕ) (m : Mask) (surface scratch : ℕ) : Type 0 where
  pub scene : scene_fault m.lent s ≡ Ok tt
  pub size : surface ≡ 4 * (width_of s * height_of s)
  pub mask : MaskFits m (width_of s * height_of s)
  pub space : 12300 ≤ scratch

pub draw_ready : (s : List ℕ) (m : Mask) (surface scratch : ℕ) → (draw_refusal s m surface scratch).code ≡ 0 → Ready s m surface scratch
unfolding draw_refusal
draw_ready s m surface scratch e =
    let p = else_fine (scene_refusal m.lent s 0) (lent_refusal (width_of s) (height_of s) m surface scratch) e in
    let q = lent_fine (width_of s) (height_of s) m surface scratch p.1 in
    record { scene = scene_fine m.lent s 0 p.0; size = q.0; mask = q.1.0; space = q.1.1 }

pub record ReadyBoth (old new : List ℕ) (m : Mask) (surface scratch : ℕ) : Type 0 where
  pub before : scene_fault m.lent old ≡ Ok tt
  pub after : Ready new m surface scratch
  pub width : width_of old ≡ width_of new
  pub height : height_of old ≡ height_of new

pub redraw_ready : (old new : List ℕ) (m : Mask) (surface scratch : ℕ) → (redraw_refusal old new m surface scratch).code ≡ 0
    → ReadyBoth old new m surface scratch
unfolding redraw_refusal
redraw_ready old new m surface scratch e =
    let p = else_fine (scene_refusal m.lent old 0) _ e in
    let q = else_fine (scene_refusal m.lent new 1) _ p.1 in
    let r = else_fine (size_refusal old new) _ q.1 in
    let t = lent_fine (width_of new) (height_of new) m surface scratch r.1 in
    let z = size_fine old new r.0 in
    record {
      before = scene_fine m.lent old 0 p.0;
      after = record { scene = scene_fine m.lent new 1 q.0; size = t.0; mask = t.1.0; space = t.1.1 };
      width = z.0;
      height = z.1;
    }

-- an answer that passes was of an accepted scene
pub scene_passed : (masked : Bool) (s : List ℕ) (k : ℕ) (f : Refusal) → f ≡ scene_refusal masked s k → f.code ≡ 0 → scene_fault masked s ≡ Ok tt
scene_passed masked s k f e z = scene_fine masked s k (sym (ap (λ (g : Refusal). g.code) e) ∙ z)

-- ---- what the engine asks for, where w and h are the sizes that were read
module _ (s : List ℕ) (m : Mask) (surface scratch w h : ℕ) (r : Ready s m surface scratch) (e : w ≡ width_of s) (f : h ≡ height_of s) where
  pub ready_size : surface ≡ h * (w * 4)
  ready_size = r.size ∙ rw (← e, ← f) (omega arith)

  pub ready_limits : (w ≤ 1024) × (h ≤ 1024)
  ready_limits = rw (e, f) ((accepted_scene s m.lent r.scene).width_most, (accepted_scene s m.lent r.scene).height_most)

  pub ready_within : (a : Rect) → On w h a → On 1024 1024 a
  ready_within a o = record {
    across = o.across;
    wide = omega (arith, o.wide, ready_limits.0);
    up = o.up;
    high = omega (arith, o.high, ready_limits.1);
  }

  -- the mask's bytes as they are taken
  pub ready_mask : (n : ℕ) → n ≡ cond m.lent (length m.bytes) 0 → MaskForScene s (h * w) (take (n - 0) (drop 0 m.bytes))
  ready_mask n z i l asks =
      let lent = asks_lent (draw_of s i) m.lent (edition_of s) (draws_passed s m.lent r.scene i l) asks in
      let all : n ≡ length m.bytes = z ∙ rw lent in
      let long = r.mask lent in
      let pixels : n ≡ w * h = rw (e, f) (all ∙ long) in
      part_length m.bytes 0 n (omega arith) (omega arith) ∙ omega arith

pub taken_most : (m : Mask) (n : ℕ) → n ≡ cond m.lent (length m.bytes) 0 → n ≤ length m.bytes
taken_most m n e = by m.lent e
  where
    by : (t : Bool) → n ≡ cond t (length m.bytes) 0 → n ≤ length m.bytes
    by true h = omega arith
    by false h = omega arith

pub whole_on : (w h : ℕ) → On w h (whole w h)
whole_on w h = record { across = omega arith; wide = omega arith; up = omega arith; high = omega arith }

-- a scene that passes has its first block
pub accepted_block : (masked : Bool) (s : List ℕ) → scene_fault masked s ≡ Ok tt → 512 ≤ length s
accepted_block masked s a = omega (arith, (accepted_scene s masked a).bytes)

-- a run of zeros of that length
pub zeroed : (l m : List ℤ) → m ≡ replicate (length l) (pos 0) → length m ≡ length l → 12300 ≤ length l
    → (12300 ≤ length m) × (m ≡ replicate (length m) (pos 0))
zeroed l m e k space = (omega (arith, k, space), e ∙ ap (λ (n : ℕ). replicate n (pos 0)) (sym k))
