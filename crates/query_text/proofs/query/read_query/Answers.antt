use Rattle.query_text.proofs.Words.{no_kind, rest_read}
use Rattle.query_text.proofs.query.read_query.Goals as goal

pub returns-in-Some-read_word : goal.returns-in-Some-read_word
returns-in-Some-read_word c =
    rest_read c.args.line.now c.in-Some.word.now c.in-Some.rest.now c.in-Some-read_word.kind
    c.read_rest.result c.law_lines.ensures.words c.in-Some.ensures c.in-Some-read_word.ensures
    c.read_rest.ensures

pub returns-in-None : goal.returns-in-None
returns-in-None c = λ q is.
    no_kind c.args.line.now _ _ q c.in-Some.ensures.1 c.in-None.ensures
    ((c.law_lines.ensures.words _ q).0 is)
