-- Small histories, computed from the definitions.
use Rattle.std.proofs.Common.{◌≡◌, pos, ℤ, ◌≤ℤ◌, List, [], ◌∷◌, Some, None, Option, refl, arith}
use Rattle.std.specs.Prelude.{IfSome}
use Rattle.std.proofs.lemmas.Int.{ints}
use Rattle.std.proofs.lemmas.List.Elements.{All-cons, All-get_or, All-nil}
use Rattle.bl_problem.specs.Points.{IsFeasible, InBox, value_of}
use Rattle.bl_problem.specs.Rows.{MeetsRow}
use Rattle.bl_desc.specs.Changes.{nothing}
use Rattle.bl_desc.specs.declared.desc.Form.TheVariants.{Explicit}
use Rattle.bl_desc.specs.declared.desc.Piece.TheVariants.{Explicit as ExplicitPiece}
use Rattle.bl_desc.specs.declared.desc.Piece.TheVariants.{Relative as RelativePiece}
use Rattle.bl_journal.specs.declared.entry.Entry.{Entry}
use Rattle.bl_journal.specs.declared.entry.Entry.TheVariants.{Take, Put, Back, Encode, Free}
use Rattle.bl_journal.specs.declared.entry.Step.TheVariants.{Split}
use Rattle.bl_journal.specs.declared.settings.Settings.{Settings}
use Rattle.bl_pool.specs.declared.key.Order.TheVariants.{Best, Depth}
use Rattle.bl_journal.specs.Covering.{covering, row, with_span, with_gap, high_four, point_if}
use Rattle.bl_journal.specs.Covering.{low_if, IsRange}
use Rattle.bl_journal.specs.Descriptions.{full_of}
use Rattle.bl_journal.specs.States.{used_of}
use Rattle.bl_journal.specs.Replies.{take_reply, gives, idle, done, spent}
use Rattle.bl_journal.specs.Pieces.{stored_of, chain_of, held_of}
use Rattle.bl_journal.specs.Freeing.{first_freeable, IsFreeChain}
use Rattle.bl_journal.specs.Pieces.{rebuilt}
use Rattle.bl_journal.specs.Results.{answer_of, optimal, within, room_of}
use Rattle.bl_journal.specs.Soundness.{IsSound}
use Rattle.bl_journal.specs.Legality.{MayPut}
use Rattle.bl_journal.proofs.Nothing.{nothing_fits}

abbrev pub root_split : Entry
root_split = Put 0 0 None (pos 0) (Split nothing 0 (pos 4))

-- the last entry first
abbrev pub after_put : List Entry
after_put = root_split ∷ Take 0 0 ∷ []

pub first_take : (gap : ℤ) → take_reply covering (with_gap gap) [] ≡ gives 0
unfolding take_reply
first_take gap = refl

take_again : take_reply covering (with_span 8) after_put ≡ gives 1
unfolding take_reply
take_again = refl

held_nine : held_of covering (with_span 8) after_put ≡ 9
unfolding held_of
held_nine = refl

held_each_explicit : held_of covering (with_span 1) after_put ≡ 21
unfolding held_of
held_each_explicit = refl

low_of_one : (full_of covering after_put 1).highs ≡ pos 4 ∷ pos 10 ∷ []
low_of_one = refl

stored_one : stored_of covering (with_span 8) after_put 1 ≡ RelativePiece high_four
stored_one = refl

abbrev pub encoded : List Entry
encoded = Encode 0 2 Explicit ∷ Encode 0 1 Explicit ∷ after_put

freeable_root : first_freeable covering (with_span 8) encoded ≡ Some 0
freeable_root = refl

free_chain : IsFreeChain covering (with_span 8) encoded (0 ∷ [])
free_chain = (refl, refl)

after_free : take_reply covering (with_span 8) (Free 0 (0 ∷ []) ∷ encoded) ≡ gives 1
unfolding take_reply
after_free = refl

-- a put with the optimal point
abbrev pub with_point : List Entry
with_point = Put 0 0 (Some (pos 2 ∷ pos 1 ∷ [])) (pos 7) (Split nothing 0 (pos 4)) ∷ Take 0 0 ∷ []

then_done : take_reply covering (with_span 8) with_point ≡ done
unfolding take_reply
then_done = refl

free_one : IsFreeChain covering (with_span 8) with_point (1 ∷ [])
free_one = (refl, refl)

abbrev pub one_freed : List Entry
one_freed = Free 0 (1 ∷ []) ∷ with_point

free_two : IsFreeChain covering (with_span 8) one_freed (2 ∷ 0 ∷ [])
free_two = (refl, (refl, refl, refl))

abbrev pub all_freed : List Entry
all_freed = Free 0 (2 ∷ 0 ∷ []) ∷ one_freed

held_none : held_of covering (with_span 8) all_freed ≡ 0
unfolding held_of
held_none = refl

no_more : first_freeable covering (with_span 8) all_freed ≡ None
no_more = refl

answer_is : answer_of covering (with_span 8) all_freed
    ≡ optimal (record { value = pos 7; point = pos 2 ∷ pos 1 ∷ [] })
unfolding answer_of
answer_is = refl

-- a put with a point of value 10
abbrev pub with_ten : List Entry
with_ten = Put 0 0 (Some (pos 2 ∷ pos 2 ∷ [])) (pos 7) (Split nothing 0 (pos 4)) ∷ Take 0 0 ∷ []

done_within_three : take_reply covering (with_gap (pos 3)) with_ten ≡ done
unfolding take_reply
done_within_three = refl

within_three : answer_of covering (with_gap (pos 3)) with_ten
    ≡ within (record { value = pos 10; point = pos 2 ∷ pos 2 ∷ [] }) (pos 7)
unfolding answer_of
within_three = refl

one_at_two : take_reply covering (with_gap (pos 2)) with_ten ≡ gives 1
unfolding take_reply
one_at_two = refl

room_at_start : room_of covering (with_span 8) [] ≡ 241
room_at_start = refl

spent_after_put : take_reply covering (record { nodes = 1; span = 1; order = Best; gap = pos 0 })
    after_put ≡ spent
unfolding take_reply
spent_after_put = refl

abbrev pub two_out : List Entry
two_out = Take 0 2 ∷ Take 0 1 ∷ Back 0 1 ∷ Take 0 1 ∷ after_put

idle_when_all_out : take_reply covering (with_span 1) two_out ≡ idle
unfolding take_reply
idle_when_all_out = refl

one_again : take_reply covering (with_span 1) (Back 0 1 ∷ Take 0 1 ∷ after_put) ≡ gives 1
unfolding take_reply
one_again = refl

used_three : used_of two_out ≡ 3
used_three = refl

depth_first : take_reply covering (record { nodes = 100; span = 8; order = Depth; gap = pos 0 })
    after_put ≡ gives 1
unfolding take_reply
depth_first = refl

chain_of_one : chain_of covering (with_span 8) after_put 1
    ≡ ExplicitPiece (full_of covering after_put 0) ∷ RelativePiece high_four ∷ []
chain_of_one = refl

rebuilt_one : rebuilt (chain_of covering (with_span 8) after_put 1)
    ≡ Some (full_of covering after_put 1)
rebuilt_one = refl

abbrev pub root_taken : List Entry
root_taken = Take 0 0 ∷ []

-- the row says of the value what it says of its sum
value_at_least : (x : List ℤ) → IsFeasible covering x → pos 7 ≤ℤ value_of covering x
value_at_least [] f = absurd f.box
value_at_least (a ∷ []) f = absurd f.box.2
value_at_least (a ∷ b ∷ []) f =
    let met : MeetsRow (a ∷ b ∷ []) row =
    All-get_or (MeetsRow (a ∷ b ∷ [])) (row ∷ []) 0 row (omega arith) f.rows in
    omega (arith, ints, met.low)
value_at_least (a ∷ b ∷ c ∷ x) f = absurd f.box.2.2

low_holds : (found : Option ℤ) (x : List ℤ) → IsFeasible covering x
    → low_if found ≤ℤ value_of covering x
low_holds (Some y) x f = value_at_least x f
low_holds None x f = omega (arith, ints, value_at_least x f)

point_feasible : (y : ℤ) → IsRange y → IsFeasible covering (pos 2 ∷ y ∷ [])
point_feasible y r =
    let low : pos 1 ≤ℤ y = r.0 in
    let high : y ≤ℤ pos 10 = r.1 in
    record {
      box = (
        omega (arith, ints),
        omega (arith, ints),
        (omega (arith, ints, low), omega (arith, ints, high), tt),
      );
      rows = All-cons (MeetsRow (pos 2 ∷ y ∷ [])) row []
          (record { low = omega (arith, ints, low); high = tt })
          (All-nil (MeetsRow (pos 2 ∷ y ∷ [])));
    }

split_sound : (found : Option ℤ) → IfSome found IsRange
    → IsSound covering (full_of covering root_taken 0) None (point_if found) (low_if found)
    (Split nothing 0 (pos 4))
split_sound found r =
    record {
      found_ok = by_found found r;
      low_ok = λ x q. low_holds found x q.feasible;
      next_ok = record {
        common_fits = nothing_fits (full_of covering root_taken 0)
            (λ i j a b h k. absurd (omega (arith, h))) (omega arith);
        meets = λ x q. tt;
        cuts_suit = λ k e i. absurd (omega (arith, i));
        cuts_valid = λ k e i. absurd (omega (arith, i));
        column_in = omega arith;
        low_at_most = omega (arith, ints);
        below_high = omega (arith, ints);
      };
    }
  where
    by_found : (o : Option ℤ) → IfSome o IsRange → IfSome (point_if o)
        (λ x. IsFeasible covering x × InBox (full_of covering root_taken 0).lows
        (full_of covering root_taken 0).highs x)
    by_found None h = tt
    by_found (Some y) h = let feasible = point_feasible y h in (feasible, feasible.box)

-- the root may be split so, with a point or without one
pub split_may : (s : Settings) (found : Option ℤ) → IfSome found IsRange
    → MayPut covering s root_taken 0 0 (point_if found) (low_if found) (Split nothing 0 (pos 4))
split_may s found r =
    record {
      is_out = refl;
      sound = split_sound found r;
      few_cuts = omega arith;
      new_ids = λ k e i. absurd (omega (arith, i));
    }
