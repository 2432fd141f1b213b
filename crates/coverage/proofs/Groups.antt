-- Marks in two levels: one more mark, four more, none, and pixels without one.
use mathlib.Core.Path.{◌≡◌, refl, sym, ap, subst, subst₂, ◌∙◌}
use mathlib.Core.List.{List}
use mathlib.Core.Bool.{Bool, true, false, ◌&&◌}
use Prim.Native.Nat.{ℕ, ◌+◌, ◌-◌, ◌*◌, ◌/◌, ◌%◌, ◌≤◌, ◌<◌, min, max}
use native.Mathlib.Omega.{arith}
use native.Mathlib.Decide.{ℕ_discrete}
use lib.Dec.{T, eqb, ltb}
use borrow.Author.Tests.{ltb-true, ltb-false, eqb-true}
use lib.ListN.{length, get_or, set, length-set}
use lib.Seq.{get_or-set_same, get_or-set_other}
use Rattle.fixed.proofs.Tests.{is_true, both_left, both_right}
use Rattle.lists.specs.Lists.{tab}
use Rattle.lists.proofs.Laws.{tab_at}
use Rattle.coverage.specs.Marks.{raised, touched, mark_rows, Grouped, Blank}

-- ---- pixels are marked
module _ (s : List ℕ) (i n : ℕ) (h : i < length s) where
  raised_reached : n ≤ get_or (raised s i n) i 0
  unfolding raised
  raised_reached = omega (arith, get_or-set_same s i (max (get_or s i 0) n) 0 h)

  raised_grown : (j : ℕ) → get_or s j 0 ≤ get_or (raised s i n) j 0
  unfolding raised
  raised_grown j = by (ℕ_discrete j i)
    where
      by : Dec (j ≡ i) → get_or s j 0 ≤ get_or (set s i (max (get_or s i 0) n)) j 0
      by (yes e) = rw e (omega (arith, get_or-set_same s i (max (get_or s i 0) n) 0 h))
      by (no e) = omega (arith, get_or-set_other s i j (max (get_or s i 0) n) 0 e)

raised_long : (s : List ℕ) (i n : ℕ) → length (raised s i n) ≡ length s
unfolding raised
raised_long s i n = length-set s i (max (get_or s i 0) n)

-- the groups know of pixel p: it lies where their marks may be
record Noted (groups : List ℕ) (p : ℕ) : Type 0 where
  ended : p < get_or groups (p / 64) 0
  begun : 64 ≤ get_or groups (16 + p / 64) 0 + p % 64

-- the groups are told of pixels from lo to hi: they still know of all marks, and of the pixels between if these are of one group
module _ (groups : List ℕ) (lo hi : ℕ) (order : lo ≤ hi) (h : hi < 1024) (long : length groups ≡ 32) where
  abbrev ending : List ℕ
  ending = raised groups (hi / 64) (hi + 1)

  ending_long : length ending ≡ 32
  ending_long = raised_long groups (hi / 64) (hi + 1) ∙ long

  here : hi / 64 < length groups
  here = omega arith

  there : 16 + lo / 64 < length ending
  there = omega (arith, ending_long)

  touched_long : length (touched groups lo hi) ≡ 32
  unfolding touched
  touched_long = raised_long ending (16 + lo / 64) (64 - lo % 64) ∙ ending_long

  touched_grown : (j : ℕ) → get_or groups j 0 ≤ get_or (touched groups lo hi) j 0
  unfolding touched
  touched_grown j = omega (arith, raised_grown groups (hi / 64) (hi + 1) here j, raised_grown ending (16 + lo / 64) (64 - lo % 64) there j)

  touched_keeps : (marks : List ℕ) → Grouped marks groups → Grouped marks (touched groups lo hi)
  touched_keeps marks g = record {
    wide = g.wide;
    long = touched_long;
    ended = λ i l q. g.ended i l (omega (arith, q, touched_grown (i / 64)));
    begun = λ i l q. g.begun i l (omega (arith, q, touched_grown (16 + i / 64)));
  }

  end_touched : hi < get_or (touched groups lo hi) (hi / 64) 0
  unfolding touched
  end_touched = omega (arith, raised_reached groups (hi / 64) (hi + 1) here, raised_grown ending (16 + lo / 64) (64 - lo % 64) there (hi / 64))

  begin_touched : 64 - lo % 64 ≤ get_or (touched groups lo hi) (16 + lo / 64) 0
  unfolding touched
  begin_touched = raised_reached ending (16 + lo / 64) (64 - lo % 64) there

  touched_noted : lo / 64 ≡ hi / 64 → (p : ℕ) → lo ≤ p → p ≤ hi → Noted (touched groups lo hi) p
  touched_noted one p low high = record {
    ended = subst (λ (n : ℕ). p < get_or (touched groups lo hi) n 0) as_last (omega (arith, end_touched, high));
    begun = subst (λ (n : ℕ). 64 ≤ get_or (touched groups lo hi) (16 + n) 0 + p % 64) as_first (omega (arith, begin_touched, rest));
  }
    where
      as_last : hi / 64 ≡ p / 64
      as_last = omega (arith, one, low, high)

      as_first : lo / 64 ≡ p / 64
      as_first = omega (arith, one, low, high)

      rest : lo % 64 ≤ p % 64
      rest = omega (arith, as_first, low)

-- a pixel that they know of is marked
noted_marked : (marks groups : List ℕ) (p : ℕ) → Noted groups p → Grouped marks groups → Grouped (set marks p 1) groups
noted_marked marks groups p n g = record {
  wide = omega (arith, wide, g.wide);
  long = g.long;
  ended = λ i l q. other i (λ e. past i e q) ∙ g.ended i (omega (arith, wide)) q;
  begun = λ i l q. other i (λ e. before i e q) ∙ g.begun i (omega (arith, wide)) q;
}
  where
    wide : length (set marks p 1) ≡ length marks
    wide = length-set marks p 1

    other : (i : ℕ) → (i ≡ p → ⊥) → get_or (set marks p 1) i 0 ≡ get_or marks i 0
    other i e = get_or-set_other marks p i 1 0 e

    past : (i : ℕ) → i ≡ p → get_or groups (i / 64) 0 ≤ i → ⊥
    past i e q =
        let r : get_or groups (p / 64) 0 ≤ p = subst (λ (j : ℕ). get_or groups (j / 64) 0 ≤ j) e q in
        absurd (omega (arith, r, n.ended))

    before : (i : ℕ) → i ≡ p → get_or groups (16 + i / 64) 0 + i % 64 < 64 → ⊥
    before i e q =
        let r : get_or groups (16 + p / 64) 0 + p % 64 < 64 = subst (λ (j : ℕ). get_or groups (16 + j / 64) 0 + j % 64 < 64) e q in
        absurd (omega (arith, r, n.begun))

-- one pixel, and four of one group
pub one_grouped : (marks groups : List ℕ) (p : ℕ) {m t : List ℕ} → m ≡ set marks p 1 → t ≡ touched groups p p → p < length marks → Grouped marks groups
    → Grouped m t
one_grouped marks groups p o e h g =
    subst₂ Grouped (sym o) (sym e)
    (noted_marked marks (touched groups p p) p (touched_noted groups p p here low g.long refl p here here)
    (touched_keeps groups p p here low g.long marks g))
  where
    here : p ≤ p
    here = omega arith

    low : p < 1024
    low = omega (arith, g.wide)

pub four_grouped : (marks groups : List ℕ) (a b c d lo hi : ℕ) {m t : List ℕ} → lo ≡ min (min a b) (min c d) / 4 → hi ≡ max (max a b) (max c d) / 4
    → m ≡ mark_rows (a / 4) (b / 4) (c / 4) (d / 4) marks → t ≡ touched groups lo hi → hi < length marks → lo / 64 ≡ hi / 64 → Grouped marks groups
    → Grouped m t
unfolding mark_rows
four_grouped marks groups a b c d lo hi q r o e h one g =
    subst₂ Grouped (sym o) (sym e)
    (more (set (set (set marks (a / 4) 1) (b / 4) 1) (c / 4) 1) (d / 4) (omega (arith, q)) (omega (arith, r))
    (more (set (set marks (a / 4) 1) (b / 4) 1) (c / 4) (omega (arith, q)) (omega (arith, r))
    (more (set marks (a / 4) 1) (b / 4) (omega (arith, q)) (omega (arith, r))
    (more marks (a / 4) (omega (arith, q)) (omega (arith, r)) (touched_keeps groups lo hi order low g.long marks g)))))
  where
    order : lo ≤ hi
    order = omega (arith, q, r)

    low : hi < 1024
    low = omega (arith, h, g.wide)

    more : (x : List ℕ) (p : ℕ) → lo ≤ p → p ≤ hi → Grouped x (touched groups lo hi) → Grouped (set x p 1) (touched groups lo hi)
    more x p k l = noted_marked x (touched groups lo hi) p (touched_noted groups lo hi order low g.long one p k l)

-- what the test for pixels of one group tells
pub near_both : (lo hi w : ℕ) → (ltb hi w && eqb (lo / 64) (hi / 64)) ≡ true → (hi < w) × (lo / 64 ≡ hi / 64)
near_both lo hi w q =
    let inside = ltb hi w in
    let one = eqb (lo / 64) (hi / 64) in
    let both : T (inside && one) = subst T (sym q) tt in
    (ltb-true hi w (is_true inside (both_left inside one both)), eqb-true (lo / 64) (hi / 64) (is_true one (both_right inside one both)))

-- no pixel is marked: the groups may be anything
pub none_grouped : {groups : List ℕ} (marks : List ℕ) (n : ℕ) → marks ≡ tab n (λ j. 0) → length marks ≡ n → n ≤ 1024 → length groups ≡ 32 → Grouped marks groups
none_grouped marks n o wide h long = record {
  wide = omega arith;
  long = long;
  ended = λ i l s. clear i (omega arith);
  begun = λ i l s. clear i (omega arith);
}
  where
    clear : (i : ℕ) → i < n → get_or marks i 0 ≡ 0
    clear i l = ap (λ (t : List ℕ). get_or t i 0) o ∙ tab_at n (λ j. 0) i 0 l

-- ---- pixels without a mark
pub blank_none : (marks : List ℕ) (e : ℕ) → e ≤ length marks → Blank marks e e
blank_none marks e h = record { low = omega arith; high = h; none = λ i l g. absurd (omega (arith, l, g)) }

-- from e on, which lies after the marks of its group
pub blank_past : (marks groups : List ℕ) (e : ℕ) → e < length marks → Grouped marks groups → min (get_or groups (e / 64) 0) (length marks) ≤ e
    → Blank marks e (min ((e / 64 + 1) * 64) (length marks))
blank_past marks groups e h g q = record {
  low = omega arith;
  high = omega arith;
  none = λ i l k. g.ended i (omega arith) (by i l (same i l k));
}
  where
    same : (i : ℕ) → e ≤ i → i < min ((e / 64 + 1) * 64) (length marks) → i / 64 ≡ e / 64
    same i l k = omega arith

    by : (i : ℕ) → e ≤ i → i / 64 ≡ e / 64 → get_or groups (i / 64) 0 ≤ i
    by i l s = rw s (omega arith)

-- of group h up to where its marks begin, which is its end where it has none
pub blank_begin : (marks groups : List ℕ) (h : ℕ) → Grouped marks groups
    → Blank marks (min (h * 64) (length marks)) (min (h * 64 + (64 - min (get_or groups (16 + h) 0) 64)) (length marks))
blank_begin marks groups h g = record {
  low = omega arith;
  high = omega arith;
  none = λ i l k. g.begun i (omega arith) (by i l k (same i l k));
}
  where
    same : (i : ℕ) → min (h * 64) (length marks) ≤ i → i < min (h * 64 + (64 - min (get_or groups (16 + h) 0) 64)) (length marks) → i / 64 ≡ h
    same i l k = omega arith

    by : (i : ℕ) → min (h * 64) (length marks) ≤ i → i < min (h * 64 + (64 - min (get_or groups (16 + h) 0) 64)) (length marks) → i / 64 ≡ h
        → get_or groups (16 + i / 64) 0 + i % 64 < 64
    by i l k s = rw s (omega arith)

-- blank pixels after blank pixels
pub blank_more : (marks : List ℕ) (p e r : ℕ) → Blank marks p e → Blank marks e r → Blank marks p r
blank_more marks p e r a b = record { low = omega (arith, a.low, b.low); high = b.high; none = λ i l g. by i l g (ltb i e) refl }
  where
    by : (i : ℕ) → p ≤ i → i < r → (t : Bool) → ltb i e ≡ t → get_or marks i 0 ≡ 0
    by i l g true q = a.none i l (ltb-true i e q)
    by i l g false q = b.none i (ltb-false i e q) g
