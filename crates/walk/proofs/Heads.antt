-- What a reference met on the way down comes to: no node, a node with a wrong header, or a node whose header is accepted.
-- Assumes nothing.
use Rattle.std.specs.Prelude.{None, Option, Some}
use mathlib.Core.Path.{◌≡◌, refl, sym, ◌∙◌}
use mathlib.Core.Bool.{Bool, true, false}
use mathlib.Core.List.{List}
use Prim.Native.Nat.{ℕ, ◌+◌, ◌-◌, ◌≤◌, ◌<◌}
use native.Mathlib.Decide.{dec_lt}
use native.Mathlib.Omega.{arith}
use borrow.Author.Tests.{lt-ltb, ltb-false, le-leb}
use lib.Dec.{eqb, ltb}
use Rattle.digits.specs.Choice.{pick}
use Rattle.digits.specs.Headers.{depth_of, length_of}
use Rattle.pool.specs.Places.{header_at}
use Rattle.pool.specs.Refs.{ref_of, Within}
use Rattle.pool.specs.declared.Ref.{Ref}
use Rattle.pool.specs.declared.Ref.TheVariants.{Empty, Leaf, Node, Bad}
use Rattle.pool.proofs.Refs.{within}
use Rattle.walk.specs.Walks.{head_of, Between}
use Rattle.walk.specs.Ends.{Accepted}

-- an accepted branch place lies between the walk depth and 15
pub between : (w word : ℕ) → Between w (head_of w word)
unfolding head_of
between w word = go (ltb (depth_of word) w) refl (ltb 15 (length_of word)) (ltb 15 (depth_of word + length_of word)) refl
  where
    b : ℕ
    b = depth_of word + length_of word

    go : (t : Bool) → ltb (depth_of word) w ≡ t → (u v : Bool) → ltb 15 b ≡ v → Between w (pick t None (pick u None (pick v None (Some b))))
    go true e u v f = tt
    go false e true v f = tt
    go false e false true f = tt
    go false e false false f = omega (arith, ltb-false (depth_of word) w e, ltb-false 15 b f)

-- a branch place over 15 is damage, whatever the length
pub too_deep : (w word : ℕ) → 15 < depth_of word + length_of word → head_of w word ≡ None
unfolding head_of
too_deep w word h = rw (lt-ltb 15 (depth_of word + length_of word) h) (go (ltb (depth_of word) w) (ltb 15 (length_of word)))
  where
    go : (t u : Bool) → ◌≡◌ {A = Option ℕ} (pick t None (pick u None None)) None
    go true u = refl
    go false true = refl
    go false false = refl

-- a header that a walk accepts fits a key
pub header_fits : (w word : ℕ) {h : Option ℕ} {b : ℕ} → h ≡ head_of w word → h ≡ Some b → depth_of word + length_of word < 16
header_fits w word {b = b} e q =
    elim (dec_lt (depth_of word + length_of word) 16) [
      | yes l ↦ l
      | no g ↦
          let z : None ≡ Some b = sym (too_deep w word (omega arith)) ∙ sym e ∙ q in
          let o : ◌≡◌ {A = ℕ} 0 1 = cc in
          absurd (omega arith)
    ]

-- a reference that is to no node
abbrev pub NoNode : Ref → Type 0
NoNode Empty = Unit {0}
NoNode (Leaf i) = Unit {0}
NoNode (Node j) = ⊥
NoNode Bad = Unit {0}

-- a reference up to 1024 is to no node
pub low_no_node : (n r : ℕ) → r ≤ 1024 → NoNode (ref_of n r)
unfolding ref_of
low_no_node n r h = rw (le-leb r 1024 h) (go (eqb r 0) (ltb (r - 1) n))
  where
    go : (t u : Bool) → NoNode (pick t Empty (pick u (Leaf (r - 1)) Bad))
    go true u = tt
    go false true = tt
    go false false = tt

-- the reference r, met at walk depth w, is to node j, and its header is refused
pub record Refused (pool : List ℕ) (n w r j : ℕ) : Type 0 where
  pub refers : ref_of n r ≡ Node j
  pub head : head_of w (header_at pool n j) ≡ None

-- what the reference r, met at walk depth w, comes to
pub data Met (pool : List ℕ) (n w r : ℕ) : Type 0 where
  no_node : (x : Ref) → ref_of n r ≡ x → Within n x → NoNode x → Met pool n w r
  wrong : (j : ℕ) → Refused pool n w r j → Met pool n w r
  node : (j b : ℕ) → Accepted pool n w r j b → Met pool n w r

pub met : (pool : List ℕ) (n w r : ℕ) → Met pool n w r
met pool n w r = at_ref (ref_of n r) refl (within n r)
  where
    at_head : (j : ℕ) → ref_of n r ≡ Node j → j + 1 < n → (h : Option ℕ) → head_of w (header_at pool n j) ≡ h → Between w h → Met pool n w r
    at_head j e l (Some b) f g = node j b (record { refers = e; j< = l; head = f; w≤b = g.0; b< = g.1 })
    at_head j e l None f g = wrong j (record { refers = e; head = f })

    at_ref : (x : Ref) → ref_of n r ≡ x → Within n x → Met pool n w r
    at_ref Empty e l = no_node Empty e tt tt
    at_ref (Leaf i) e l = no_node (Leaf i) e l tt
    at_ref (Node j) e l = at_head j e l (head_of w (header_at pool n j)) refl (between w (header_at pool n j))
    at_ref Bad e l = no_node Bad e tt tt

-- what a turn's calls and matches tell: the reference is no node
pub unmatched : (x : Ref) → ((j : ℕ) → x ≡ Node j → ⊥) → NoNode x
unmatched Empty h = tt
unmatched (Leaf i) h = tt
unmatched (Node j) h = absurd (h j refl)
unmatched Bad h = tt

module _ (pool : List ℕ) (n w r : ℕ) {x : Ref} {y : Option ℕ} {j h : ℕ} (e : x ≡ ref_of n r) (f : x ≡ Node j) (g : h ≡ header_at pool n j) (k : y ≡ head_of w h) where
  -- or a node whose header is refused
  pub refused : y ≡ None → Refused pool n w r j
  refused m = record { refers = sym e ∙ f; head = rw (← g, ← k) m }

  -- or one whose header is accepted
  pub accepted : {b : ℕ} → Within n x → Between w y → y ≡ Some b → Accepted pool n w r j b
  accepted i l m =
      let u = rw m at l in
      record { refers = sym e ∙ f; j< = rw f at i; head = rw (← g, ← k) m; w≤b = u.0; b< = u.1 }
