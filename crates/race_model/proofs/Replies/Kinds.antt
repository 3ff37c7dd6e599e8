-- Two right books that say the same plays give the same reply to each line that asks of a position
-- within the bounds of both or of none, whatever the number of throws of each.
use Rattle.std.proofs.Common.{◌≡◌, ℕ, suc, ◌+◌, ◌*◌, ◌^◌, List, sym, ap, subst, ◌∙◌, arith}
use Rattle.std.proofs.lemmas.Nat.{pow-add}
use Rattle.race_model.specs.Prelude.{Book, whole_in, IsRightBook, IsLong, HasSamePlays, IsWithinAlike, IsReplyOver}
use Rattle.race_model.specs.Prelude.{IsReplyIn}
use Rattle.race_model.proofs.Books.Kinds.{further_mean, further_share, no_further_share}
use Rattle.race_model.proofs.Replies.OneReply.{power_positive}
use Rattle.race_model.proofs.Replies.EqualReplies.{Carries, same_reply}
use Rattle.race_model.proofs.Replies.Multiples.{carried_up, carried_down}

module _ (f g : Book) (right_f : IsRightBook f) (right_g : IsRightBook g) (long : IsLong f)
    (same : HasSamePlays f g) (d : ℕ) (more : d + suc f.further ≡ suc g.further) where
  -- the other's sequences
  whole_is : 36 ^ d * whole_in f ≡ whole_in g
  whole_is = sym (pow-add 36 d (suc f.further)) ∙ ap (λ n. 36 ^ n) more

  up : Carries (λ a b. b ≡ 36 ^ d * a) f g
  up = record {
    played = λ x v at low. (right_f x at low.0).played v;
    plays = λ x v at low. same x v at low.0 low.1;
    means = λ x at low. further_mean f g right_f right_g long d more x at low.0 low.1;
    shares =
        λ x k at low few most.
        further_share f g right_f right_g long d more x at low.0 low.1 same k few;
    further =
        λ x k at low. no_further_share f g right_f right_g long d more x at low.0 low.1 same k;
    fewer = λ x k at low beyond few. absurd (omega (arith, more, beyond, few));
  }

  down : Carries (λ a b. a ≡ 36 ^ d * b) g f
  down = record {
    played = λ x v at low. (right_g x at low.0).played v;
    plays = λ x v at low. sym (same x v at low.1 low.0);
    means = λ x at low. further_mean f g right_f right_g long d more x at low.1 low.0;
    shares =
        λ x k at low few most.
        further_share f g right_f right_g long d more x at low.1 low.0 same k most;
    further = λ x k at low beyond few. absurd (omega (arith, more, beyond, few));
    fewer =
        λ x k at low. no_further_share f g right_f right_g long d more x at low.1 low.0 same k;
  }

  -- what the one replies the other does
  pub reply_up : (line text : List ℕ) → IsWithinAlike f.bound g.bound line →
      IsReplyIn f line text → IsReplyIn g line text
  reply_up line text alike reply =
      subst (λ w. IsReplyOver w g line text) whole_is
      (same_reply (whole_in f) (36 ^ d * whole_in f) (λ a b. b ≡ 36 ^ d * a)
      (carried_up (36 ^ d) (whole_in f) (power_positive d)) f g up line text alike reply)

  -- what the book over more throws replies, the other does
  pub reply_down : (line text : List ℕ) → IsWithinAlike f.bound g.bound line →
      IsReplyIn g line text → IsReplyIn f line text
  reply_down line text alike reply =
      same_reply (36 ^ d * whole_in f) (whole_in f) (λ a b. a ≡ 36 ^ d * b)
      (carried_down (36 ^ d) (whole_in f) (power_positive d)) g f down line text
      (λ q is. ((alike q is).1, (alike q is).0))
      (subst (λ w. IsReplyOver w g line text) (sym whole_is) reply)
