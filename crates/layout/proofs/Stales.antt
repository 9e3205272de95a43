-- Which headers stores leave as they are, and the stale nodes that follow. Rests on the laws of straight trees and on who owns a word.
-- Assumes nothing.
use mathlib.Core.Path.{◌≡◌, ap, ◌∙◌}
use mathlib.Core.Logic.{◌≢◌, ◌⊎◌, inl, inr}
use Prim.Native.Nat.{ℕ, ◌+◌, ◌-◌, ◌≤◌, ◌<◌}
use mathlib.Core.List.{List}
use native.Mathlib.Omega.{arith}
use borrow.Author.Tests.{lt-ltb, le-ltb}
use Rattle.digits.specs.Headers.{depth_of}
use Rattle.pool.specs.Places.{node_word, child_word}
use Rattle.tree.specs.Tree.{Tree, node, upd, mult, On}
use Rattle.tree.specs.Shape.{Mem}
use Rattle.tree.specs.Straight.{StraightBut}
use Rattle.tree.specs.Stores.{Store, run}
use Rattle.tree.proofs.Basics.{less?, upd_at, upd_off}
use Rattle.tree.proofs.Places.{by_place}
use Rattle.tree.proofs.Stores.{Words, words_more, run_off}
use Rattle.tree.proofs.Straight.{straight_more, straight_same}
use Rattle.layout.specs.Layout.{ref_at}
use Rattle.layout.specs.Switches.{depths, NoneStale, OneStale}
use Rattle.layout.proofs.Held.{ref_child}

module _ (N : ℕ) where
  -- ---- the headers that memory has
  pub depths_same : (m m' : Mem) (x : ℕ) → (N ≤ x → m' (node_word N (x - N)) ≡ m (node_word N (x - N))) → depths N m' x ≡ depths N m x
  depths_same m m' x e = go (less? x N)
    where
      go : (x < N) ⊎ (N ≤ x) → depths N m' x ≡ depths N m x
      go (inl l) = rw (lt-ltb x N l)
      go (inr l) = rw (le-ltb x N l) (ap depth_of (e l))

  pub depth_there : (m : Mem) (x : ℕ) → N ≤ x → depths N m x ≡ depth_of (m (node_word N (x - N)))
  depth_there m x l = rw (le-ltb x N l)

  pub none_one : (m : Mem) (t : Tree ℕ) → NoneStale N m t → OneStale N m t
  none_one m t g = record { slot = 0; straight = straight_more (depths N m) (λ x. ⊥) (λ x. x ≡ 0) 0 t (λ x o. absurd o) g }

  -- ---- stores that leave the headers of a tree's nodes as they are, but for those in some slots
  abbrev pub Apart : (ℕ → Type 0) → Tree ℕ → ℕ → Type 0
  Apart but t i = (x : ℕ) → N ≤ x → 0 < mult x t → (but x → ⊥) → node_word N (x - N) ≢ i

  pub stores_straight : (m : Mem) (but : ℕ → Type 0) (w : ℕ) (t : Tree ℕ) (τ : List Store) → Words (Apart but t) τ
      → StraightBut (depths N m) but w t → StraightBut (depths N (run τ m)) but w t
  stores_straight m but w t τ a g =
      straight_same (depths N m) (depths N (run τ m)) but w t
      (λ x h n. depths_same m (run τ m) x
      (λ l. run_off τ m (node_word N (x - N)) (words_more (Apart but t) (λ i. node_word N (x - N) ≢ i) τ (λ i f. f x l h n) a)))
      g

  -- ---- a header stored
  module _ (m : Mem) (x a : ℕ) (low : N ≤ x) where
    pub header_depth : depths N (upd m (node_word N (x - N)) a) x ≡ depth_of a
    header_depth = depth_there (upd m (node_word N (x - N)) a) x low ∙ ap depth_of (upd_at m (node_word N (x - N)) a)

    pub header_others : (y : ℕ) → y ≢ x → depths N (upd m (node_word N (x - N)) a) y ≡ depths N m y
    header_others y n =
        depths_same m (upd m (node_word N (x - N)) a) y (λ l. upd_off m (node_word N (x - N)) a (node_word N (y - N)) (λ e. n (omega arith)))

  -- a node under another header, which says the depth where it is met now
  pub node_straight : (m m' : Mem) (but : ℕ → Type 0) (w w' x b s : ℕ) (kids : ℕ → Tree ℕ) → depths N m' x ≡ w'
      → ((y : ℕ) → y ≢ x → depths N m' y ≡ depths N m y) → ((c : ℕ) → c < 16 → mult x (kids c) ≡ 0)
      → StraightBut (depths N m) but w (node x b s kids) → StraightBut (depths N m') but w' (node x b s kids)
  unfolding StraightBut
  node_straight m m' but w w' x b s kids e others once g = (
    λ n. e,
    λ c l. straight_same (depths N m) (depths N m') but (b + 1) (kids c)
        (λ y h n. others y (λ z. omega (arith, once c l, ap (λ i. mult i (kids c)) z))) (g.1 c l),
  )

-- ---- the reference of a place is no header
pub ref_no_header : (D N : ℕ) (t : Tree ℕ) (π : List ℕ) → On π t → (j : ℕ) → node_word N j ≢ ref_at N 1 π t
unfolding ref_at
ref_no_header D N t =
    by_place (λ π. (j : ℕ) → node_word N j ≢ ref_at N 1 π t) t (λ j e. omega arith)
    (λ ρ c y b s kids lc p j e. let q : node_word N j ≡ child_word N (y - N) c = e ∙ ref_child D N ρ c y b s kids t p in omega arith)

module _ (D N : ℕ) (m : Mem) (t : Tree ℕ) (π : List ℕ) (on : On π t) where
  -- headers stay as they are when it is stored to
  pub ref_depths : (r x : ℕ) → depths N (upd m (ref_at N 1 π t) r) x ≡ depths N m x
  ref_depths r x =
      depths_same N m (upd m (ref_at N 1 π t) r) x (λ l. upd_off m (ref_at N 1 π t) r (node_word N (x - N)) (ref_no_header D N t π on (x - N)))
