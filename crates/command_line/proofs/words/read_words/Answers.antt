-- The words of a request are those of its command.
use Rattle.std.proofs.Common.{◌≡◌, ◌∷◌, ◌∙◌, ap, ap₂, ℕ, List, Option, Some, None, codes, map, rules, Bool, true, false}
use Rattle.std.proofs.Common.{[], ⊎_elim, subst, sym}
use Rattle.command_line.specs.Asked.{AreUsual, Gives, IsFor, audit, build, check, query, kind_in, Asked, Asks, name_of}
use Rattle.command_line.specs.Asked.{Text, default, ask, show, about, upgrade}
use Rattle.db_layout.specs.declared.stated.Kind.{Kind}
use Rattle.db_layout.specs.declared.stated.Kind.TheVariants.{Database, Board}
use Rattle.command_line.proofs.BoardWords.{flagged_kind, number_kind}
use Rattle.command_line.proofs.words.read_words.Given.{Over}
use Rattle.command_line.proofs.words.read_words.Goals.{After-read_build, After-read_query}
use Rattle.command_line.proofs.words.read_words.Goals as goal
use Rattle.std.specs.Str.{bytes_eq}

abbrev EachIf : Bool → Type 0 → Type 0 → Type 0
EachIf true A B = A
EachIf false A B = B

-- P holds of each request of the command that the words name
abbrev Each : List Text → (Asked → Type 0) → Type 0
Each [] P = P default
Each (name ∷ rest) P = EachIf (bytes_eq name (codes "build"))
    ((kind : Kind) (pips : ℕ) (path : Text) → AreUsual (build kind pips path) rest
    → P (build kind pips path))
    (EachIf (bytes_eq name (codes "check"))
    ((kind : Kind) (path : Text) → AreUsual (check kind path) rest → P (check kind path))
    (EachIf (bytes_eq name (codes "query"))
    ((kind : Kind) (path : Text) (cache : Option ℕ) → AreUsual (query kind path cache) rest
    → P (query kind path cache))
    (EachIf (bytes_eq name (codes "ask"))
    ((path lines : Text) → AreUsual (ask path lines) rest → P (ask path lines))
    (EachIf (bytes_eq name (codes "show"))
    ((is_json : Bool) (texts : Text) → AreUsual (show is_json texts) rest → P (show is_json texts))
    (EachIf (bytes_eq name (codes "about"))
    ((path : Text) → AreUsual (about path) rest → P (about path))
    (EachIf (bytes_eq name (codes "audit"))
    ((kind : Kind) (path : Text) → AreUsual (audit kind path) rest → P (audit kind path))
    (EachIf (bytes_eq name (codes "upgrade"))
    ((old new : Text) → AreUsual (upgrade old new) rest → P (upgrade old new))
    (Unit {0}))))))))

named : (P : Asked → Type 0) (asked : Asked) (rest : List Text) → AreUsual asked rest
    → Each (name_of asked ∷ rest) P → P asked
named P default rest usual all = absurd usual
named P (build kind pips path) rest usual all = all kind pips path usual
named P (check kind path) rest usual all = all kind path usual
named P (query kind path cache) rest usual all = all kind path cache usual
named P (ask path lines) rest usual all = all path lines usual
named P (show is_json texts) rest usual all = all is_json texts usual
named P (about path) rest usual all = all path usual
named P (audit kind path) rest usual all = all kind path usual
named P (upgrade old new) rest usual all = all old new usual

-- P holds of the request that the words ask for, which are these
each : (P : Asked → Type 0) (words given : List Text) (asked : Asked) → words ≡ given
    → Asks words asked → Each given P → P asked
each P words given asked same asks all =
    let these = subst (λ ws. Each ws P) (sym same) all in
    ⊎_elim (λ none. subst P (sym none.1) (subst (λ ws. Each ws P) none.0 these))
    (λ some. named P asked some.0 some.2 (subst (λ ws. Each ws P) some.1 these)) asks

builds : (g : Over) (c : After-read_build g) (kind : Kind) (pips : ℕ) (path : List ℕ)
    → AreUsual (build kind pips path) (map g.S.AsStr.text c.in-Some.rest.now)
    → Gives c.read_build.result (IsFor (build kind pips path))
builds g c Database pips path usual = c.read_build.ensures.pips pips path usual
    (c.kind_in-kind.ensures ∙ ap kind_in usual.4
    ∙ number_kind pips usual.0 path usual.1 usual.3)
builds g c Board pips path usual = c.read_build.ensures.board pips path usual
    (c.kind_in-kind.ensures ∙ ap kind_in usual.2)

queries : (g : Over) (c : After-read_query g) (kind : Kind) (path : List ℕ)
    (cache : Option ℕ) → AreUsual (query kind path cache) (map g.S.AsStr.text c.in-Some.rest.now)
    → Gives c.read_query.result (IsFor (query kind path cache))
queries g c kind path None usual = c.read_query.ensures.file kind path usual
    (c.kind_in-kind.ensures ∙ ap kind_in usual.1 ∙ flagged_kind kind path usual.0)
queries g c Database path (Some n) usual = c.read_query.ensures.cache n path usual
    (c.kind_in-kind.ensures ∙ ap kind_in usual.5
    ∙ number_kind n usual.0 path usual.1 usual.4)
queries g c Board path (Some n) usual = absurd usual

pub returns-in-build-clause-usual : goal.returns-in-build-clause-usual
returns-in-build-clause-usual g c asked asks =
    each (λ a. Gives c.read_build.result (IsFor a)) _
    (codes "build" ∷ map g.S.AsStr.text c.in-Some.rest.now) asked (search rules) asks
    (builds g (goal.at.returns-in-build-clause-usual g c).After-read_build)

pub returns-in_ok-path-in-check-clause-usual : goal.returns-in_ok-path-in-check-clause-usual
returns-in_ok-path-in-check-clause-usual g c asked asks =
    let read = (c.in_ok-path-in-check.ensures {u = tt}).given in
    let kind_is = c.kind_in-kind.ensures in
    each (λ a. (check c.kind_in-kind.result c.in_ok-path-in-check.path.now ≡ a) × Unit {0}) _ (codes
    "check" ∷ map g.S.AsStr.text c.in-Some.rest.now) asked (search rules) asks (λ kind path usual. (
      ap₂ check (kind_is ∙ ap kind_in usual.1 ∙ flagged_kind kind path usual.0) (read kind path
          usual.0 usual.1).0,
      tt,
    ))

pub returns-in-query-clause-usual : goal.returns-in-query-clause-usual
returns-in-query-clause-usual g c asked asks =
    each (λ a. Gives c.read_query.result (IsFor a)) _
    (codes "query" ∷ map g.S.AsStr.text c.in-Some.rest.now) asked (search rules) asks
    (queries g (goal.at.returns-in-query-clause-usual g c).After-read_query)

pub returns-in-ask-clause-usual : goal.returns-in-ask-clause-usual
returns-in-ask-clause-usual g c asked asks =
    each (λ a. Gives c.read_ask.result (IsFor a)) _ (codes "ask" ∷ map g.S.AsStr.text
    c.in-Some.rest.now) asked (search rules) asks c.read_ask.ensures.usual

pub returns-in-show-clause-usual : goal.returns-in-show-clause-usual
returns-in-show-clause-usual g c asked asks =
    each (λ a. Gives c.read_show.result (IsFor a)) _ (codes "show" ∷ map g.S.AsStr.text
    c.in-Some.rest.now) asked (search rules) asks c.read_show.ensures.usual

pub returns-in-about-clause-usual : goal.returns-in-about-clause-usual
returns-in-about-clause-usual g c asked asks =
    each (λ a. Gives c.read_about.result (IsFor a)) _ (codes "about" ∷ map g.S.AsStr.text
    c.in-Some.rest.now) asked (search rules) asks c.read_about.ensures.usual

pub returns-in_ok-path-in-audit-clause-usual : goal.returns-in_ok-path-in-audit-clause-usual
returns-in_ok-path-in-audit-clause-usual g c asked asks =
    let read = (c.in_ok-path-in-audit.ensures {u = tt}).given in
    let kind_is = c.kind_in-kind.ensures in
    each (λ a. (audit c.kind_in-kind.result c.in_ok-path-in-audit.path.now ≡ a) × Unit {0}) _ (codes
    "audit" ∷ map g.S.AsStr.text c.in-Some.rest.now) asked (search rules) asks (λ kind path usual. (
      ap₂ audit (kind_is ∙ ap kind_in usual.1 ∙ flagged_kind kind path usual.0) (read kind path
          usual.0 usual.1).0,
      tt,
    ))

pub returns-in-upgrade-clause-usual : goal.returns-in-upgrade-clause-usual
returns-in-upgrade-clause-usual g c asked asks =
    each (λ a. Gives c.read_upgrade.result (IsFor a)) _ (codes "upgrade" ∷ map g.S.AsStr.text
    c.in-Some.rest.now) asked (search rules) asks c.read_upgrade.ensures.usual
