pub mod Framed
mod TellLaws
mod AskLaws
mod GoLaws
mod JoinLaws
mod HoldLaws
mod DropLaws
mod HostLaws
