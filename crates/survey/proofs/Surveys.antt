-- Laws of the survey: one that has met damage does nothing, its bound on nodes is not seen, and a reference to no node is met alike at every depth.
-- Assumes nothing.
use Rattle.std.specs.Prelude.{None, Option, Some}
use mathlib.Core.Path.{◌≡◌, refl, sym, ap, ◌∙◌}
use mathlib.Core.Bool.{true, false}
use mathlib.Core.List.{List}
use Prim.Native.Nat.{ℕ, zero, suc, ◌+◌, ◌≤◌, ◌<◌}
use native.Mathlib.Omega.{arith}
use lib.Dec.{eqb, ltb}
use lib.ListN.{get_or}
use Rattle.digits.specs.Choice.{pick}
use Rattle.pool.specs.Places.{header_at, child_at}
use Rattle.pool.specs.Refs.{ref_of}
use Rattle.pool.specs.declared.Ref.{Ref}
use Rattle.pool.specs.declared.Ref.TheVariants.{Empty, Leaf, Node, Bad}
use Rattle.walk.specs.Walks.{head_of, Between, children_of}
use Rattle.walk.proofs.Heads.{between}
use Rattle.survey.specs.Surveys.{Survey, survey, spoilt, kid_of, closed, node_met, ref_met, survey_from}
use Rattle.survey.proofs.Loops.{upto_same}

module _ (pool : List ℕ) (n : ℕ) where
  -- a node that is met with so many nodes left below the reference to it
  abbrev pub node_from : ℕ → ℕ → ℕ → Survey → Survey
  node_from zero w j = spoilt
  node_from (suc f) w j = node_met (survey_from f pool n) pool n w j (head_of w (header_at pool n j))

  pub survey_turn : (f w r : ℕ) (v : Survey) → survey_from f pool n w r v ≡ pick v.census.sound (ref_met (node_from f w) pool n (ref_of n r) v) v
  unfolding survey_from
  survey_turn zero w r v = refl
  survey_turn (suc f) w r v = refl

  -- "A survey that has met damage does nothing."
  pub survey_over : (f w r : ℕ) {v : Survey} → v.census.sound ≡ false → survey_from f pool n w r v ≡ v
  survey_over f w r {v} h = survey_turn f w r v ∙ rw h

  -- one that has met none does what the reference says
  pub survey_on : (f w r : ℕ) (v : Survey) {x y : Ref} → v.census.sound ≡ true → x ≡ ref_of n r → x ≡ y
      → survey_from f pool n w r v ≡ ref_met (node_from f w) pool n y v
  survey_on f w r v h e q = survey_turn f w r v ∙ rw (h, ← e, q)

  -- surveys that treat a node alike are alike
  nodes_same : (f g w u r : ℕ) (v : Survey) → ((j : ℕ) → ref_of n r ≡ Node j → node_from f w j v ≡ node_from g u j v)
      → survey_from f pool n w r v ≡ survey_from g pool n u r v
  nodes_same f g w u r v h =
      survey_turn f w r v ∙ ap (λ (z : Survey). pick v.census.sound z v) (go (ref_of n r) refl) ∙ sym (survey_turn g u r v)
    where
      go : (x : Ref) → ref_of n r ≡ x → ref_met (node_from f w) pool n x v ≡ ref_met (node_from g u) pool n x v
      go Empty e = refl
      go (Leaf i) e = refl
      go (Node j) e = h j e
      go Bad e = refl

  -- ---- the bound on nodes is not seen
  kids_same : (go go' : ℕ → ℕ → Survey → Survey) (w j : ℕ) (v : Survey) → ((d r : ℕ) (u : Survey) → w < d → go d r u ≡ go' d r u)
      → (h : Option ℕ) → Between w h → node_met go pool n w j h v ≡ node_met go' pool n w j h v
  kids_same go go' w j v e (Some b) l =
      ap (λ (g : Survey). pick (ltb (children_of pool n j) 2) (spoilt v) (pick (eqb (get_or v.marks (n + j) 0) 0) g (spoilt v)))
      (ap (closed (header_at pool n j))
      (upto_same (kid_of go pool n j b) (kid_of go' pool n j b) _ (λ c g. rw (e (b + 1) (child_at pool n j c) (survey g.marks g.sum.census) (omega arith))) 16))
  kids_same go go' w j v e None l = refl

  -- no header is accepted where no digit is left
  none_left : (go : ℕ → ℕ → Survey → Survey) (w j : ℕ) (v : Survey) → 16 ≤ w → (h : Option ℕ) → Between w h → spoilt v ≡ node_met go pool n w j h v
  none_left go w j v g (Some b) l = absurd (omega arith)
  none_left go w j v g None l = refl

  node_end : (f w j : ℕ) (v : Survey) → 16 ≤ w → spoilt v ≡ node_from f w j v
  node_end zero w j v g = refl
  node_end (suc f) w j v g = none_left (survey_from f pool n) w j v g (head_of w (header_at pool n j)) (between w (header_at pool n j))

  -- a bound that leaves one node for each digit that is left is not seen
  pub survey_bound_unseen : (f g w r : ℕ) (v : Survey) → 16 ≤ f + w → 16 ≤ g + w → survey_from f pool n w r v ≡ survey_from g pool n w r v
  survey_bound_unseen zero g w r v a b = nodes_same 0 g w w r v (λ j e. node_end g w j v (omega arith))
  survey_bound_unseen (suc f) zero w r v a b = nodes_same (suc f) 0 w w r v (λ j e. sym (node_end (suc f) w j v (omega arith)))
  survey_bound_unseen (suc f) (suc g) w r v a b =
      nodes_same (suc f) (suc g) w w r v (λ j e.
      kids_same (survey_from f pool n) (survey_from g pool n) w j v (λ d x u l. survey_bound_unseen f g d x u (omega arith) (omega arith))
      (head_of w (header_at pool n j))
      (between w (header_at pool n j)))

  -- so a node's children are surveyed under the bound of the node
  pub node_bound_unseen : (f w j : ℕ) (v : Survey) → 16 ≤ f → node_from f w j v ≡ node_met (survey_from f pool n) pool n w j (head_of w (header_at pool n j)) v
  node_bound_unseen zero w j v l = absurd (omega arith)
  node_bound_unseen (suc f) w j v l =
      kids_same (survey_from f pool n) (survey_from (suc f) pool n) w j v (λ d x u g. survey_bound_unseen f (suc f) d x u (omega arith) (omega arith))
      (head_of w (header_at pool n j))
      (between w (header_at pool n j))
