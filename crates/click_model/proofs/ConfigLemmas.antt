-- The outcome of a text, from those of its items.
use Rattle.std.proofs.Common.{◌≡◌, ◌∙◌, sym, ap, ℕ, List, Result, Ok, Err}
use Rattle.click_text.specs.declared.fault.Unread.{Unread}
use Rattle.click_text.specs.declared.fault.Unread.TheVariants as unread
use Rattle.click_text.specs.Items.{ItemSeen, items_of}
use Rattle.click_model.specs.declared.fault.ClickFault.{ClickFault}
use Rattle.click_model.specs.declared.fault.ClickFault.TheVariants.{BadLine, Conflict, Limit, NoClass, BadArgument, PortClash, NoElement, NoMemory}
use Rattle.click_model.specs.Declarations.{DeclaredSeen, declared_from, nothing_declared}
use Rattle.click_model.specs.Connections.{ConnectedSeen}
use Rattle.click_model.specs.Configs.{Answers, ConfigSeen, click_of, config_if, config_with, connect_all, finished, unread_fault}

answers : {A : Type 0} (is r : Result A ClickFault) → is ≡ r → Answers is r
answers is (Ok x) same = same
answers is (Err (BadLine line)) same = same
answers is (Err (Conflict line earlier)) same = same
answers is (Err (Limit line)) same = same
answers is (Err (NoClass line)) same = same
answers is (Err (BadArgument line)) same = same
answers is (Err (PortClash line)) same = same
answers is (Err (NoElement line)) same = same
answers is (Err NoMemory) same = tt

pub told : (bytes : List ℕ) (items : List ItemSeen) (d : DeclaredSeen) (c : ConnectedSeen) (r : Result ConfigSeen ClickFault)
    → items_of bytes ≡ Ok items → d ≡ declared_from nothing_declared items → c ≡ connect_all d items → finished d.elements c.links c.flaw ≡ r
    → Answers (click_of bytes) r
told bytes items d c r read declared connected is =
    answers (click_of bytes) r
    (ap config_if read ∙ ap (λ d. config_with d items) (sym declared) ∙ ap (λ c. finished d.elements c.links c.flaw) (sym connected) ∙ is)

-- a token that the grammar does not allow
pub refused : (bytes : List ℕ) (why : Unread) → ((why ≡ unread.NoMemory → ⊥) → items_of bytes ≡ Err why)
    → Answers (click_of bytes) (Err (unread_fault why))
refused bytes (unread.BadLine line) is = ap config_if (is (λ e. cc))
refused bytes unread.NoMemory is = tt
