pub mod ExchangeLaws
pub mod PassLaws
pub mod EnterLaws
pub mod KeepLaws
pub mod BackLaws
pub mod MessageLaws
