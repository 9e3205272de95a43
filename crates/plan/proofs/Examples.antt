-- Examples of plans, by computation.
-- Assumes nothing.
use mathlib.Core.Path.{◌≡◌, refl}
use mathlib.Core.List.{List, [], ◌∷◌}
use Prim.Native.Nat.{ℕ}
use Rattle.tree.specs.Stores.{Store}
use Rattle.plan.specs.declared.Plan.{Plan}
use Rattle.plan.specs.declared.Effect.TheVariants.{TakesLeaf}
use Rattle.plan.specs.Plans.{all_but_last, plan_of, after, step_of, stores_in, ran, makes_of, run_of}

-- two stores, word 3 := 40 and then word 1 := 2, each a group, that take byte 0 of the map
stores : List Store
stores = record { word = 3; value = 40 } ∷ record { word = 1; value = 2 } ∷ []

two : Plan
two = plan_of all_but_last stores (TakesLeaf 0)

pool : List ℕ
pool = 9 ∷ 9 ∷ 9 ∷ 9 ∷ []

-- laid out in its arrays, unused places 0
laid_out :
    two ≡
    record {
      words = 3 ∷ 1 ∷ 0 ∷ 0 ∷ 0 ∷ 0 ∷ 0 ∷ 0 ∷ 0 ∷ 0 ∷ 0 ∷ 0 ∷ 0 ∷ 0 ∷ 0 ∷ 0 ∷ 0 ∷ 0 ∷ 0 ∷ 0 ∷ 0 ∷ [];
      values = 40 ∷ 2 ∷ 0 ∷ 0 ∷ 0 ∷ 0 ∷ 0 ∷ 0 ∷ 0 ∷ 0 ∷ 0 ∷ 0 ∷ 0 ∷ 0 ∷ 0 ∷ 0 ∷ 0 ∷ 0 ∷ 0 ∷ 0 ∷ 0 ∷ [];
      count = 2;
      first = 1;
      fences = 0;
      effect = TakesLeaf 0;
    }
unfolding two stores
laid_out = refl

-- each step makes its own store and no other
first_step : step_of two 0 pool ≡ after 0 (9 ∷ 9 ∷ 9 ∷ 40 ∷ [])
unfolding two stores pool step_of
first_step = refl

second_step : step_of two 1 pool ≡ after 0 (9 ∷ 2 ∷ 9 ∷ 9 ∷ [])
unfolding two stores pool step_of
second_step = refl

past_the_count : step_of two 2 pool ≡ after 5 pool
unfolding two stores pool step_of
past_the_count = refl

word_outside : step_of two 0 (9 ∷ 9 ∷ 9 ∷ []) ≡ after 5 (9 ∷ 9 ∷ 9 ∷ [])
unfolding two stores step_of
word_outside = refl

count_over : step_of (record { words = two.words; values = two.values; count = 22; first = two.first; fences = two.fences; effect = two.effect }) 0 pool ≡ after 5 pool
unfolding two stores pool step_of
count_over = refl

-- a run of one step, and of as many as the plan has
cut_run : run_of 1 two pool ≡ ran 1 (9 ∷ 9 ∷ 9 ∷ 40 ∷ [])
unfolding two stores pool stores_in makes_of
cut_run = refl

whole_run : run_of 21 two pool ≡ ran 2 (9 ∷ 2 ∷ 9 ∷ 40 ∷ [])
unfolding two stores pool stores_in makes_of
whole_run = refl

-- a word that two stores name holds what the last of those made gave it
named_twice :
    (makes_of 1 (stores_in (2 ∷ 2 ∷ []) (5 ∷ 6 ∷ [])) pool ≡ ran 1 (9 ∷ 9 ∷ 5 ∷ 9 ∷ []))
    × (makes_of 2 (stores_in (2 ∷ 2 ∷ []) (5 ∷ 6 ∷ [])) pool ≡ ran 2 (9 ∷ 9 ∷ 6 ∷ 9 ∷ []))
unfolding pool stores_in makes_of
named_twice = (refl, refl)

-- a store outside the pool is refused, and none is made after it
none_after_a_refusal : makes_of 3 (stores_in (2 ∷ 4 ∷ 3 ∷ []) (5 ∷ 6 ∷ 7 ∷ [])) pool ≡ ran 1 (9 ∷ 9 ∷ 5 ∷ 9 ∷ [])
unfolding pool stores_in makes_of
none_after_a_refusal = refl
