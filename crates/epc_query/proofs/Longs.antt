-- What a file says over 33 throws, by what it says over its own: each number is a multiple by one
-- number, as the sequences are.
use Rattle.std.proofs.Common.{◌≡◌, inl, inr, ℕ, ◌*◌, ◌^◌, ◌<◌, ◌≤◌, List, length, refl, sym, ap, subst, subst₂, ◌∙◌}
use Rattle.std.proofs.Common.{arith, slice_index_or}
use Rattle.std.proofs.Math.Nat.{mul-sub, eq_of_mul-eq-mul_left, le_of_mul-le-mul_left, lt_of_mul-lt-mul_left}
use Rattle.race_model.specs.Prelude.{Board, IsPosition, finished, pips, Throw, rank, count_to, Book, mean_in, whole_in}
use Rattle.race_model.specs.Prelude.{IsRightBook, IsLong, book_of, bound_of, board_book, IsFraction, loss_in}
use Rattle.race_model.specs.Prelude.{IsListedBeforeIn, IsMoveListIn, further_by, IsReplyIn, IsReplyOver}
use Rattle.race_model.specs.Prelude.{IsShareTextOver, IsLevelLineIn, IsLevelLineOver}
use Rattle.race_model.proofs.Replies.Kinds.{reply_down}
use Rattle.race_model.proofs.Books.FromLocal.{whole_board}
use Rattle.race_model.proofs.Books.Further.{right_further, long_further}
use Rattle.race_model.proofs.Replies.Multiples.{fraction_down}
use Rattle.race_model.proofs.RightFiles.Right.{short}
use Rattle.fixed_fraction.specs.Board.{board_whole}
use Rattle.db_layout.specs.declared.stated.Kind.{Kind}
use Rattle.db_layout.specs.declared.stated.Kind.TheVariants.{Database as database, Board as board}
use Rattle.epc_query.specs.Kinds.{book_as, long_as, scale_as, rolls_in, IsRightAs}

-- the number is not none
pub some_as : (kind : Kind) → 0 < scale_as kind
some_as database = omega arith
some_as board = omega arith

-- the sequences of 33 throws are that many times those of the file
pub whole_as : (kind : Kind) (f : List ℕ) → scale_as kind * whole_in (book_as kind f) ≡ board_whole
whole_as database f = refl
whole_as board f = refl

-- a mean
pub mean_as : (kind : Kind) (f : List ℕ) (r : ℕ) →
    (long_as kind f).means r ≡ scale_as kind * (book_as kind f).means r
mean_as database f r = refl
mean_as board f r = omega arith

-- a loss
pub loss_as : (kind : Kind) (f : List ℕ) (x : Board) (v : Throw) (y : Board) →
    loss_in (long_as kind f) x v y ≡ scale_as kind * loss_in (book_as kind f) x v y
loss_as database f x v y = sym (mul-sub (36 ^ 11) (mean_in (book_of f) y) _)
loss_as board f x v y = omega arith

-- a fraction of the multiple is that of the number
pub fraction_as : (kind : Kind) (f : List ℕ) (a n d : ℕ) →
    IsFraction (scale_as kind * a) board_whole n d → IsFraction a (whole_in (book_as kind f)) n d
fraction_as kind f a n d is =
    fraction_down (scale_as kind) (whole_in (book_as kind f)) (some_as kind) a n d
    (subst (λ w. IsFraction (scale_as kind * a) w n d) (sym (whole_as kind f)) is)

-- what it says over 33 throws is right, too
pub right_as : (kind : Kind) (f : List ℕ) → IsRightAs kind f → IsRightBook (long_as kind f)
right_as database f right = right_further (book_of f) 11 right.book
right_as board f right = right.book

-- no game is longer
pub long_enough : (kind : Kind) (f : List ℕ) → IsRightAs kind f → IsLong (long_as kind f)
long_enough database f right = long_further (book_of f) 11 (short f right.file)
long_enough board f right = whole_board (board_book f) refl

-- the bound is that of the file
pub bound_as : (kind : Kind) (f : List ℕ) → (long_as kind f).bound ≡ bound_of f
bound_as database f = refl
bound_as board f = refl

-- it counts over 33 throws
pub rolls_as : (kind : Kind) (f : List ℕ) → rolls_in (long_as kind f) ≡ 33
rolls_as database f = refl
rolls_as board f = refl

-- the list of moves is the same
pub moves_as : (kind : Kind) (f : List ℕ) (x : Board) (v : Throw) (ys : List Board) →
    IsMoveListIn (long_as kind f) x v ys → IsMoveListIn (book_as kind f) x v ys
moves_as kind f x v ys is = record { members = is.members; ordered = ordered }
  where
    before : (y z : Board) → IsListedBeforeIn (long_as kind f) x v y z →
        IsListedBeforeIn (book_as kind f) x v y z
    before y z order = elim order [
      | inl less ↦ inl (lt_of_mul-lt-mul_left (scale_as kind)
          (subst₂ (λ a b. a < b) (loss_as kind f x v y) (loss_as kind f x v z) less))
      | inr tie ↦ inr (
        eq_of_mul-eq-mul_left (scale_as kind) (some_as kind) _ _
            (sym (loss_as kind f x v y) ∙ tie.0 ∙ loss_as kind f x v z),
        tie.1,
      )
    ]

    ordered : (i j : ℕ) → i < j → j < length ys →
        IsListedBeforeIn (book_as kind f) x v (slice_index_or ys i finished)
        (slice_index_or ys j finished)
    ordered i j low inside = before _ _ (is.ordered i j low inside)

-- the reply over 33 throws is the file's
pub reply_as : (kind : Kind) (f line text : List ℕ) → IsRightAs kind f →
    IsReplyOver board_whole (long_as kind f) line text → IsReplyIn (book_as kind f) line text
reply_as database f line text right is =
    reply_down (book_of f) (further_by 11 (book_of f)) right.book
    (right_further (book_of f) 11 right.book) (short f right.file) (λ x v at low within. refl) 11
    refl line text (λ q asks. (λ low. low, λ low. low)) is
reply_as board f line text right is = is

-- the bounds are one
pub bounds_as : (kind : Kind) (f : List ℕ) (p : ℕ) → p ≤ (book_as kind f).bound →
    p ≤ (long_as kind f).bound
bounds_as database f p within = within
bounds_as board f p within = within

-- both have the same ranks
pub under_as : (kind : Kind) (f : List ℕ) (r : ℕ) → r < count_to (book_as kind f).bound →
    r < count_to (long_as kind f).bound
under_as database f r under = under
under_as board f r under = under

-- the effective pip count of a multiple is that of the number
pub pips_as : (kind : Kind) (f : List ℕ) (a n d : ℕ) →
    IsFraction (49 * (scale_as kind * a)) (6 * board_whole) n d →
    IsFraction (49 * a) (6 * whole_in (book_as kind f)) n d
pips_as kind f a n d is =
    fraction_down (scale_as kind) (6 * whole_in (book_as kind f)) (some_as kind) (49 * a) n d
    (subst₂ (λ m w. IsFraction m w n d) (turned 49 (scale_as kind) a)
    (ap (λ w. 6 * w) (sym (whole_as kind f)) ∙ turned 6 (scale_as kind) _) is)
  where
    turned : (m c a : ℕ) → m * (c * a) ≡ c * (m * a)
    turned m c a = omega arith

-- the line of a level is the same
pub level_as : (kind : Kind) (f : List ℕ) (p : ℕ) (text : List ℕ) →
    IsLevelLineOver board_whole (long_as kind f) p text → IsLevelLineIn (book_as kind f) p text
level_as kind f p text is = record {
  least = mean_in b low.0;
  greatest = mean_in b high.0;
  level = record {
    least_reached = (low.0, low.1, low.2, refl);
    none_under =
        λ y position pips_are.
        less low.0 y (omega (arith, low.3, is.level.none_under y position pips_are));
    greatest_reached = (high.0, high.1, high.2, refl);
    none_over =
        λ y position pips_are.
        less y high.0 (omega (arith, high.3, is.level.none_over y position pips_are));
  };
  least_text = is.least_text;
  least_is = text_of low.0 is.least is.least_text low.3 is.least_is;
  greatest_text = is.greatest_text;
  greatest_is = text_of high.0 is.greatest is.greatest_text high.3 is.greatest_is;
  written = is.written;
} where
  b : Book
  b = book_as kind f

  low : (x : Board) × IsPosition x × (pips x ≡ p) × (mean_in (long_as kind f) x ≡ is.least)
  low = is.level.least_reached

  high : (x : Board) × IsPosition x × (pips x ≡ p) × (mean_in (long_as kind f) x ≡ is.greatest)
  high = is.level.greatest_reached

  less : (x y : Board) → mean_in (long_as kind f) x ≤ mean_in (long_as kind f) y →
      mean_in b x ≤ mean_in b y
  less x y under =
      le_of_mul-le-mul_left
      (subst₂ (λ m n. m ≤ n) (mean_as kind f (rank x)) (mean_as kind f (rank y)) under)
      (some_as kind)

  text_of : (x : Board) (a : ℕ) (t : List ℕ) → mean_in (long_as kind f) x ≡ a →
      IsShareTextOver board_whole a t → IsShareTextOver (whole_in b) (mean_in b x) t
  text_of x a t e told = record {
    numerator = told.numerator;
    denominator = told.denominator;
    lowest = fraction_as kind f (mean_in b x) told.numerator told.denominator
        (subst (λ n. IsFraction n board_whole told.numerator told.denominator)
        (sym e ∙ mean_as kind f (rank x)) told.lowest);
    written = told.written;
  }
