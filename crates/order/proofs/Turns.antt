-- Steps one after the other. Two neighbours that do the same in either order may be exchanged; so may any that a rearrangement turns round.
use mathlib.Core.Path.{◌≡◌, refl, sym, ap, ◌∙◌}
use mathlib.Core.Bool.{cond}
use mathlib.Core.Logic.{⊎_elim}
use Prim.Native.Nat.{ℕ, zero, suc, ◌+◌, ◌-◌, ◌≤◌, ◌<◌}
use native.Mathlib.Nat.{eq-or-lt_of_le, le_of_suc-le-suc, not-suc-le-zero}
use native.Mathlib.Omega.{arith}
use lib.Dec.{ltb}
use borrow.Author.Tests.{eq-eqb, ne_eqb, lt-ltb, le-ltb}
use Rattle.raster.proofs.Overlay.{less_or}
use Rattle.order.specs.Orders.{Rearrangement, swapped}

-- ---- the exchange of i and i + 1
module _ (i : ℕ) where
  pub swapped_first : swapped i i ≡ suc i
  unfolding swapped
  swapped_first = rw (eq-eqb i i refl)

  pub swapped_second : swapped i (suc i) ≡ i
  unfolding swapped
  swapped_second = rw (ne_eqb (suc i) i (λ e. omega arith), eq-eqb (suc i) (suc i) refl)

  pub swapped_below : (j : ℕ) → j < i → swapped i j ≡ j
  unfolding swapped
  swapped_below j l = rw (ne_eqb j i (λ e. omega arith), ne_eqb j (suc i) (λ e. omega arith))

  pub swapped_above : (j : ℕ) → suc i < j → swapped i j ≡ j
  unfolding swapped
  swapped_above j l = rw (ne_eqb j i (λ e. omega arith), ne_eqb j (suc i) (λ e. omega arith))

-- ---- the places but k, and the numbers of those places
unfoldable skipping : ℕ → ℕ → ℕ
skipping k j = cond (ltb j k) j (suc j)

unfoldable closing : ℕ → ℕ → ℕ
closing k m = cond (ltb m k) m (m - 1)

skip_below : (k j : ℕ) → j < k → skipping k j ≡ j
unfolding skipping
skip_below k j l = rw (lt-ltb j k l)

skip_above : (k j : ℕ) → k ≤ j → skipping k j ≡ suc j
unfolding skipping
skip_above k j l = rw (le-ltb j k l)

close_below : (k m : ℕ) → m < k → closing k m ≡ m
unfolding closing
close_below k m l = rw (lt-ltb m k l)

close_above : (k m : ℕ) → k ≤ m → closing k m ≡ m - 1
unfolding closing
close_above k m l = rw (le-ltb m k l)

skip_other : (k j : ℕ) → skipping k j ≡ k → ⊥
skip_other k j e = less_or j k (λ l. let q = skip_below k j l in omega arith) (λ l. let q = skip_above k j l in omega arith)

skip_most : (k j n : ℕ) → j < n → skipping k j < suc n
skip_most k j n l = less_or j k (λ a. let q = skip_below k j a in omega arith) (λ a. let q = skip_above k j a in omega arith)

close_skip : (k j : ℕ) → closing k (skipping k j) ≡ j
close_skip k j =
    less_or j k
    (λ l. ap (closing k) (skip_below k j l) ∙ close_below k j l)
    (λ l. ap (closing k) (skip_above k j l) ∙ close_above k (suc j) (omega arith) ∙ omega arith)

skip_close : (k m : ℕ) → (m ≡ k → ⊥) → skipping k (closing k m) ≡ m
skip_close k m n =
    less_or m k
    (λ l. ap (skipping k) (close_below k m l) ∙ skip_below k m l)
    (λ l. ap (skipping k) (close_above k m l) ∙ skip_above k (m - 1) (omega arith) ∙ omega arith)

close_most : (k m n : ℕ) → (m ≡ k → ⊥) → k ≤ n → m < suc n → closing k m < n
close_most k m n o a b =
    less_or m k
    (λ l. let q = close_below k m l in omega arith)
    (λ l. let q = close_above k m l in omega arith)

-- numbers keep their order
close_order : (k a b : ℕ) → closing k a < closing k b → a < b
close_order k a b l =
    less_or a b (λ o. o)
    (λ o.
    less_or a k
    (λ p. let q = close_below k a p in let r = close_below k b (omega arith) in absurd (omega arith))
    (λ p.
    let q = close_above k a p in
    less_or b k
    (λ u. let r = close_below k b u in absurd (omega arith))
    (λ u. let r = close_above k b u in absurd (omega arith))))

module _ {A : Type 0} (f : ℕ → A → A) where
  -- the first n steps; g j is the number of the one at place j
  abbrev pub turns : (ℕ → ℕ) → ℕ → A → A
  turns g zero a = a
  turns g (suc n) a = f (g n) (turns g n a)

  pub turns_same : (g h : ℕ → ℕ) (n : ℕ) (a : A) → ((j : ℕ) → j < n → g j ≡ h j) → turns g n a ≡ turns h n a
  turns_same g h zero a s = refl
  turns_same g h (suc n) a s = rw (s n (omega arith), turns_same g h n a (λ j l. s j (omega arith)))

  -- two steps do the same in either order
  abbrev pub Commute : ℕ → ℕ → Type 0
  Commute i j = (a : A) → f i (f j a) ≡ f j (f i a)

  -- THE EXCHANGE: neighbours at the places i and i + 1
  pub exchange_same : (g : ℕ → ℕ) (i n : ℕ) (a : A) → suc i < n → Commute (g i) (g (suc i)) → turns (λ j. g (swapped i j)) n a ≡ turns g n a
  exchange_same g i zero a l c = absurd (not-suc-le-zero l)
  exchange_same g i (suc n) a l c =
      ⊎_elim
      (λ e.
      let h : ℕ → ℕ = λ j. g (swapped i j) in
      let front : turns h i a ≡ turns g i a = turns_same h g i a (λ j k. ap g (swapped_below i j k)) in
      let two : f (h (suc i)) (f (h i) (turns h i a)) ≡ f (g (suc i)) (f (g i) (turns g i a)) =
      rw (swapped_first i, swapped_second i, front) (c (turns g i a)) in
      let last : n ≡ suc i = omega arith in
      rw last two)
      (λ k. rw (swapped_above i n (le_of_suc-le-suc k), exchange_same g i n a (le_of_suc-le-suc k) c))
      (eq-or-lt_of_le l)

  -- so a step is brought to the end past all that stand behind it
  bring_last : (d k n : ℕ) (g : ℕ → ℕ) (a : A) → k + d ≡ n → ((j : ℕ) → k < j → j ≤ n → Commute (g k) (g j))
      → turns g (suc n) a ≡ f (g k) (turns (λ j. g (skipping k j)) n a)
  bring_last zero k n g a e c =
      let last : n ≡ k = omega arith in
      rw last (ap (f (g k)) (turns_same g (λ j. g (skipping k j)) k a (λ j l. ap g (sym (skip_below k j l)))))
  bring_last (suc d) k n g a e c =
      let h : ℕ → ℕ = λ j. g (swapped k j) in
      let moved : h (suc k) ≡ g k = ap g (swapped_second k) in
      let past : (j : ℕ) → suc k < j → j ≤ n → Commute (h (suc k)) (h j) = λ j l m. rw (swapped_second k, swapped_above k j l) (c j (omega arith) m) in
      let rest : (j : ℕ) → j < n → h (skipping (suc k) j) ≡ g (skipping k j) =
      λ j l.
      less_or j k
      (λ m.
      ap h (skip_below (suc k) j (omega arith)) ∙ ap g (swapped_below k j m) ∙ ap g (sym (skip_below k j m)))
      (λ m.
      ⊎_elim
      (λ q. rw (← q) (ap h (skip_below (suc k) k (omega arith)) ∙ ap g (swapped_first k) ∙ ap g (sym (skip_above k k (omega arith)))))
      (λ q. ap h (skip_above (suc k) j q) ∙ ap g (swapped_above k (suc j) (omega arith)) ∙ ap g (sym (skip_above k j m)))
      (eq-or-lt_of_le m)) in
      sym (exchange_same g k (suc n) a (omega arith) (c (suc k) (omega arith) (omega arith)))
      ∙ bring_last d (suc k) n h a (omega arith) past
      ∙ ap (λ (i : ℕ). f i (turns (λ j. h (skipping (suc k) j)) n a)) moved
      ∙ ap (f (g k)) (turns_same (λ j. h (skipping (suc k) j)) (λ j. g (skipping k j)) n a rest)

  -- ANY REARRANGEMENT: of two steps that it turns round, both do the same in either order
  pub rearranged_same : (n : ℕ) (to from : ℕ → ℕ) (a : A) → Rearrangement n to from
      → ((i j : ℕ) → i < j → j < n → to j < to i → Commute i j) → turns from n a ≡ turns (λ i. i) n a
  rearranged_same zero to from a r c = refl
  rearranged_same (suc n) to from a r c =
      let k = to n in
      let low : k < suc n = r.places n (omega arith) in
      let there : from k ≡ n = r.back n (omega arith) in
      -- the draws that are not the last are at the other places
      let other : (i : ℕ) → i < n → to i ≡ k → ⊥ =
      λ i l e. let q : i ≡ n = sym (r.back i (omega arith)) ∙ ap from e ∙ there in omega arith in
      let fewer : (j : ℕ) → j < suc n → (j ≡ k → ⊥) → from j < n =
      λ j l o.
      let b : from j < suc n = r.draws j l in
      less_or (from j) n (λ m. m) (λ m. let q : from j ≡ n = omega arith in absurd (o (sym (r.there j l) ∙ ap to q))) in
      let less : Rearrangement n (λ i. closing k (to i)) (λ j. from (skipping k j)) = record {
        places = λ i l. close_most k (to i) n (other i l) (omega arith) (r.places i (omega arith));
        draws = λ j l. fewer (skipping k j) (skip_most k j n l) (skip_other k j);
        there = λ j l. ap (closing k) (r.there (skipping k j) (skip_most k j n l)) ∙ close_skip k j;
        back = λ i l. ap from (skip_close k (to i) (other i l)) ∙ r.back i (omega arith);
      } in
      let past : (j : ℕ) → k < j → j ≤ n → Commute (from k) (from j) =
      λ j l m b.
      let q = r.there j (omega arith) in
      rw there (sym (c (from j) n (fewer j (omega arith) (λ e. omega arith)) (omega arith) (rw q l) b)) in
      bring_last (n - k) k n from a (omega arith) past
      ∙ ap (λ (i : ℕ). f i (turns (λ j. from (skipping k j)) n a)) there
      ∙ ap (f n)
      (rearranged_same n (λ i. closing k (to i)) (λ j. from (skipping k j)) a less
      (λ i j l m o. c i j l (omega arith) (close_order k (to j) (to i) o)))
