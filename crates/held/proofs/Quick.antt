-- The walk that compares stored digits, in a pool that holds a tree: where it stops, the key is not held. Assumes nothing.
use Rattle.std.specs.Prelude.{Option, None, Some}
use mathlib.Core.Path.{◌≡◌, refl}
use mathlib.Core.Bool.{Bool, true, false}
use mathlib.Core.List.{List}
use Prim.Native.Nat.{ℕ, zero, suc, ◌+◌, ◌-◌, ◌<◌}
use native.Mathlib.Omega.{arith}
use Rattle.digits.specs.Digits.{digit_of}
use Rattle.digits.specs.Headers.{length_of, differs}
use Rattle.digits.proofs.Digits.{digit_lt}
use Rattle.digits.proofs.Differs.{header_alike}
use Rattle.pool.specs.Places.{word_at, header_at}
use Rattle.pool.specs.declared.Ref.TheVariants.{Leaf}
use Rattle.tree.specs.Tree.{Tree, empty, leaf, node, upd, Agree, find, Good}
use Rattle.tree.specs.Shape.{Holds}
use Rattle.tree.proofs.Basics.{true_not_false}
use Rattle.tree.proofs.Places.{found_agrees}
use Rattle.layout.specs.Layout.{base}
use Rattle.walk.specs.Walks.{unlike, walk_from, below}
use Rattle.walk.specs.Ends.{Accepted}
use Rattle.walk.specs.declared.Spot.{Spot}
use Rattle.walk.proofs.Walks.{walk_ends, walk_goes}
use Rattle.walk.proofs.Ends.{Unstopped}
use Rattle.held.specs.Ways.{dig, mem}
use Rattle.held.proofs.Heads.{Headed, held_leaf, held_head, held_node, held_child}

module _ (pool : List ℕ) (n key : ℕ) where
  -- a key that agrees with a node's keys before its branch place does not differ from what its header stores, from whichever depth
  agreeing_alike : {w r x b s : ℕ} → Headed pool n w r x b s → Agree dig b (dig s) key → differs (header_at pool n (x - n)) key ≡ false
  agreeing_alike {x = x} {b = b} {s = s} H a =
      let word = header_at pool n (x - n) in
      let l : length_of word ≡ b - H.h = omega (arith, H.shown.depth, H.shown.branch) in
      header_alike 16 word H.h (b - H.h) s key H.shown.depth l H.shown.digits (λ i h. a (H.h + i) (omega arith))

  -- the quick walk stops only where the key is not held
  pub stopped_absent : (f : ℕ) (s : Spot) (q : ℕ → ℕ) (t : Tree ℕ) → Holds (base 16 n) (mem pool) s.depth (word_at pool s.at) t
      → Good dig 16 s.depth q t → (Unstopped (walk_from f pool n key unlike s) → ⊥) → find dig key t ≡ None
  unfolding Good find walk_from
  stopped_absent zero s q t h g u = absurd (u tt)
  stopped_absent (suc f) s q empty h g u = refl
  stopped_absent (suc f) s q (leaf x k v) h g u =
      absurd (u (rw (walk_ends pool n key unlike f s (Leaf x) (held_leaf pool n s.depth (word_at pool s.at) x k v h).ref tt) tt))
  stopped_absent (suc f) s q (node x b k kids) h g u =
      go (stopped_absent f (below n (x - n) b c s) (upd (dig k) b c) (kids c) (held_child pool n w r x b k kids c h c<) (g.3 c c<))
      (differs (header_at pool n (x - n)) key) refl (find dig key (kids c)) refl
    where
      w : ℕ
      w = s.depth

      r : ℕ
      r = word_at pool s.at

      c : ℕ
      c = digit_of key b

      c< : c < 16
      c< = digit_lt 16 key b

      A : Accepted pool n w r (x - n) b
      A = held_node pool n w r x b k kids h

      own : Good dig 16 b (dig k) (node x b k kids)
      own = (omega arith, g.1, λ i l. refl, g.3, g.4)

      go : ((Unstopped (walk_from f pool n key unlike (below n (x - n) b c s)) → ⊥) → find dig key (kids c) ≡ None)
          → (d : Bool) → differs (header_at pool n (x - n)) key ≡ d → (o : Option ℕ) → find dig key (kids c) ≡ o → find dig key (kids c) ≡ None
      go on false e o z = on (λ v. u (rw (walk_goes pool n key unlike f s (x - n) b A e) v))
      go on true e None z = z
      go on true e (Some v) z =
          absurd (true_not_false e
          (agreeing_alike (held_head pool n w r x b k kids h) (found_agrees dig 16 (digit_lt 16) b (dig k) (node x b k kids) key v own z)))
