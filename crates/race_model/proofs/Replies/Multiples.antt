-- Numbers over more sequences: where they are multiples by one number, as the sequences are, they
-- have the same text and the same order.
use Rattle.std.proofs.Common.{◌≡◌, ℕ, ◌-◌, ◌*◌, ◌<◌, List, sym, ap, ap₂, subst, subst₂, ◌∙◌, arith}
use Rattle.std.proofs.Math.Nat.{mul-sub, eq_of_mul-eq-mul_left, lt_of_mul-lt-mul_left, mul-lt-mul_of_pos_left}
use Rattle.race_model.specs.Prelude.{IsFraction, IsShareTextOver, IsMeanReplyOver}
use Rattle.race_model.proofs.Replies.EqualReplies.{IsCarried}

-- a number times another
module _ (c whole : ℕ) (some : 0 < c) where
  -- a fraction of multiples is that of the numbers
  fraction_up : (a n d : ℕ) → IsFraction a whole n d → IsFraction (c * a) (c * whole) n d
  fraction_up a n d is = record {
    same = more (n * whole) (a * d) is.same;
    positive = is.positive;
    lowest = is.lowest;
  } where
    more : (p q : ℕ) → p ≡ q → n * (c * whole) ≡ c * a * d
    more p q e = omega (arith, ap (λ m. c * m) is.same)

  -- a fraction of numbers is that of their multiples
  pub fraction_down : (a n d : ℕ) → IsFraction (c * a) (c * whole) n d → IsFraction a whole n d
  fraction_down a n d is = record {
    same = eq_of_mul-eq-mul_left c some (n * whole) (a * d) (omega (arith, is.same));
    positive = is.positive;
    lowest = is.lowest;
  }

  text_up : (a : ℕ) (t : List ℕ) → IsShareTextOver whole a t →
      IsShareTextOver (c * whole) (c * a) t
  text_up a t is = record {
    numerator = is.numerator;
    denominator = is.denominator;
    lowest = fraction_up a is.numerator is.denominator is.lowest;
    written = is.written;
  }

  text_down : (a : ℕ) (t : List ℕ) → IsShareTextOver (c * whole) (c * a) t →
      IsShareTextOver whole a t
  text_down a t is = record {
    numerator = is.numerator;
    denominator = is.denominator;
    lowest = fraction_down a is.numerator is.denominator is.lowest;
    written = is.written;
  }

  mean_up : (a : ℕ) (t : List ℕ) → IsMeanReplyOver whole a t →
      IsMeanReplyOver (c * whole) (c * a) t
  mean_up a t is = record {
    numerator = is.numerator;
    denominator = is.denominator;
    mean_is = fraction_up a is.numerator is.denominator is.mean_is;
    pips_numerator = is.pips_numerator;
    pips_denominator = is.pips_denominator;
    pips_are = record {
      same = omega (arith, ap (λ m. c * m) is.pips_are.same);
      positive = is.pips_are.positive;
      lowest = is.pips_are.lowest;
    };
    thousandths = is.thousandths;
    rounded = is.rounded;
    written = is.written;
  }

  mean_down : (a : ℕ) (t : List ℕ) → IsMeanReplyOver (c * whole) (c * a) t →
      IsMeanReplyOver whole a t
  mean_down a t is = record {
    numerator = is.numerator;
    denominator = is.denominator;
    mean_is = fraction_down a is.numerator is.denominator is.mean_is;
    pips_numerator = is.pips_numerator;
    pips_denominator = is.pips_denominator;
    pips_are = record {
      same =
          eq_of_mul-eq-mul_left c some (is.pips_numerator * (6 * whole))
          (49 * a * is.pips_denominator) (omega (arith, is.pips_are.same));
      positive = is.pips_are.positive;
      lowest = is.pips_are.lowest;
    };
    thousandths = is.thousandths;
    rounded = is.rounded;
    written = is.written;
  }

  -- no multiple of a number that is some is none
  some_up : (a : ℕ) → c * a ≡ 0 → a ≡ 0
  some_up a none = eq_of_mul-eq-mul_left c some a 0 (omega (arith, none))

  some_down : (a : ℕ) → 0 < c * a → 0 < a
  some_down a some = lt_of_mul-lt-mul_left c (omega (arith, some))

  some_of : (a : ℕ) → 0 < a → 0 < c * a
  some_of a less =
      let more : c * 0 < c * a = mul-lt-mul_of_pos_left less some in omega (arith, more)

  -- multiples stand for the numbers
  pub carried_up : IsCarried whole (c * whole) (λ a b. b ≡ c * a)
  carried_up = record {
    text = λ a b t e is. subst (λ n. IsShareTextOver (c * whole) n t) (sym e) (text_up a t is);
    mean = λ a b t e is. subst (λ n. IsMeanReplyOver (c * whole) n t) (sym e) (mean_up a t is);
    minus = λ a b p q e h. ap₂ (λ m n. m - n) e h ∙ sym (mul-sub c a p);
    less =
        λ a b p q e h under.
        let more : c * a < c * p = mul-lt-mul_of_pos_left under some in omega (arith, e, h, more);
    equal = λ a b p q e h same. e ∙ ap (λ n. c * n) same ∙ sym h;
    none = λ a b e none. some_up a (sym e ∙ none);
    some = λ a b e less. some_down a (subst (λ n. 0 < n) e less);
  }

  -- numbers stand for their multiples
  pub carried_down : IsCarried (c * whole) whole (λ a b. a ≡ c * b)
  carried_down = record {
    text = λ a b t e is. text_down b t (subst (λ n. IsShareTextOver (c * whole) n t) e is);
    mean = λ a b t e is. mean_down b t (subst (λ n. IsMeanReplyOver (c * whole) n t) e is);
    minus = λ a b p q e h. ap₂ (λ m n. m - n) e h ∙ sym (mul-sub c b q);
    less = λ a b p q e h under. lt_of_mul-lt-mul_left c (subst₂ (λ m n. m < n) e h under);
    equal = λ a b p q e h same. eq_of_mul-eq-mul_left c some b q (sym e ∙ same ∙ h);
    none = λ a b e none. e ∙ ap (λ n. c * n) none ∙ omega arith;
    some = λ a b e less. subst (λ n. 0 < n) (sym e) (some_of b less);
  }
