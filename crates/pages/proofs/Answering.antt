-- The promise of the call, put together for each case of its answer.
-- Assumes nothing.
use Prim.Native.Nat.{ℕ, ◌+◌, ◌*◌, ◌^◌, ◌≤◌, ◌<◌}
use mathlib.Core.Path.{◌≡◌, refl, sym, ◌∙◌, ap}
use mathlib.Core.List.{List, [], ◌++◌}
use native.Mathlib.Omega.{arith}
use lib.ListN.{length, take, get_or}
use lib.Pow.{pow_mono}
use native.Mathlib.Nat.{lt_of_lt_of_le}
use lib.Seq.{take-append_seam}
use borrow.Author.Tests.{lt-ltb, le-ltb}
use Rattle.std.specs.Prelude.{Result, Ok, Err}
use Rattle.refusals.specs.Named.{number_of}
use Rattle.refusals.specs.declared.Refusal.{Refusal}
use Rattle.refusals.specs.declared.Refusal.TheVariants.{Room}
use Rattle.bitset.specs.Sets.{size}
use Rattle.bitset.specs.Numbers.{has}
use Rattle.bitset.proofs.Below.{size_cong}
use Rattle.bitset.proofs.Counts.{ones_size}
use Rattle.slices.specs.Appending.{each, Appended}
use Rattle.slices.proofs.Appending.{appended_front}
use Rattle.slices.proofs.Each.{each_cong}
use Rattle.semiautomata.specs.Semiautomaton.{Semiautomaton}
use Rattle.semiautomata.specs.Predictability.{initial, fork, member}
use Rattle.semiautomata.specs.Successors.{place, set_at}
use Rattle.semiautomata.specs.Means.{means}
use Rattle.semiautomata.specs.declared.successors.Successors.{Successors}
use Rattle.semiautomata.proofs.BySets.{edge_is, fit_within}
use Rattle.semiautomata.proofs.Places.{place_fits}
use Rattle.plan.specs.Asked.{Asked, refusal_of, Passes, Proper}
use Rattle.plan.proofs.Asked.{refused_passing, unread}
use Rattle.plan.proofs.Refusals.{number_some}
use Rattle.needs.specs.Needs.{Filled}
use Rattle.pages.specs.Page.{shown_of, text_of, page, line_count, page_line}
use Rattle.pages.specs.Paging.{PageOf}
use Rattle.pages.specs.inner.Rows.{states, row_shown}
use Rattle.pages.specs.inner.Sets.{PageBy}
use Rattle.pages.proofs.Counting.{page_long}

module _ (x : Successors) where
  -- the states of a set, however many may be
  states_are : (set : ℕ) → set < 2 ^ x.n → states set ≡ size x.n (has set)
  states_are set h = sym (ones_size 64 set (lt_of_lt_of_le h (pow_mono x.fit.states))) ∙ ones_size x.n set h

  fork_states : (q a : ℕ) → q < x.n → a < x.m → states (set_at x.m x.sets.now q a) ≡ size x.n (member (means x) (fork q a))
  fork_states q a h g =
      states_are (set_at x.m x.sets.now q a) (place_fits x.fit q a h g)
      ∙ size_cong x.n _ _ (λ t _. sym (edge_is x.n x.m x.starts x.sets.now q a t h g))

  -- what is put of these numbers
  abbrev pub put : List ℕ → List ℕ
  put numbers = shown_of initial (get_or numbers 0 0) (states x.starts) ++ each x.n (row_shown x.m numbers x.sets.now)

  -- .. is the page
  put_page : (numbers : List ℕ) → put numbers ≡ page (means x) numbers
  unfolding page
  put_page numbers =
      rw (states_are x.starts x.starts_fit)
      (ap (λ (forks : List ℕ). text_of (means x) numbers initial ++ forks)
      (each_cong x.n (row_shown x.m numbers x.sets.now) (λ q. each x.m (λ a. text_of (means x) numbers (fork q a)))
      (λ q h. each_cong x.m (λ a. shown_of (fork q a) (get_or numbers (place x.m q a + 1) 0) (states (set_at x.m x.sets.now q a)))
      (λ a. text_of (means x) numbers (fork q a)) (λ a g. rw (fork_states q a h g)))))

  -- THE NUMBERS that are lent on: as many as there are sets
  module _ {old room : List ℕ} (f : Filled (means x) old room) where
    lent : take (x.n * x.m + 1) room ≡ f.numbers
    lent = rw (sym f.tells.long, f.is) (take-append_seam f.numbers _)

    pub lent_long : length (take (x.n * x.m + 1) room) ≡ x.n * x.m + 1
    lent_long = rw lent f.tells.long

    long : length (page (means x) f.numbers) ≡ page_line * line_count (take (x.n * x.m + 1) room)
    long =
        rw (lent, f.tells.long) (page_long (fit_within x.n x.m x.starts x.sets.now x.fit x.starts_fit) x.fit.states x.fit.letters f.tells)

    module _ {count : ℕ} (c : count ≡ line_count (take (x.n * x.m + 1) room)) (page₀ : List ℕ) where
      pub by_short : length page₀ < 41 * count → PageBy (means x) (Err Room) page₀ page₀
      by_short h = record {
        numbers = f.numbers;
        tells = f.tells;
        gives = (rw (lt-ltb (length page₀) (length (page (means x) f.numbers)) (omega (arith, h, c, long))), number_some Room, refl);
      }

      module _ (h : 41 * count ≤ length page₀) where
        -- there is room for all of it
        pub by_room : length (put (take (x.n * x.m + 1) room)) ≤ length page₀
        by_room = rw (lent, put_page f.numbers) (omega (arith, h, c, long))

        pub by_put : {r : ℕ} {filled out : List ℕ} → Appended page₀ 0 (put (take (x.n * x.m + 1) room)) r filled → out ≡ filled
            → PageBy (means x) (Ok r) page₀ out
        by_put p same =
            let (e, is) = appended_front (rw (lent, put_page f.numbers) at p) in
            let is = same ∙ is in record {
              numbers = f.numbers;
              tells = f.tells;
              gives = (rw (le-ltb (length page₀) (length (page (means x) f.numbers)) (omega (arith, h, c, long))), (e, is));
            }

-- OF PLAN BYTES

module _ (A : Asked) (P : Proper A) where
  pub page_unread : (r : Refusal) {old : List ℕ} → number_of r ≡ refusal_of A → PageOf A (Err r) old old
  page_unread r e = record {
    numbers = [];
    tells = λ w. absurd (number_some r (e ∙ w));
    gives = (unread A P e (number_some r) _, number_some r, refl);
  }

  pub page_of : Passes A → {S : Semiautomaton} → S ≡ A.means → {a : Result ℕ Refusal} {old out : List ℕ} → PageBy S a old out → PageOf A a old out
  page_of w m {a} {old} {out} p =
      let b : PageBy A.means a old out = rw (← m) p in record {
        numbers = b.numbers;
        tells = λ _. b.tells;
        gives = rw (refused_passing A P w _) b.gives;
      }
